-- `pots::hand::winners` meets its contract: a sole contender wins, and else the best.
-- Assumes nothing.
use mathlib.Core.Path.{◌≡◌, sym, ap, ◌∙◌}
use mathlib.Core.Bool.{Bool, true, false}
use borrow.Author.Rules.{rules}
use lib.ListN.{length}
use Rattle.laws.specs.Tests.{pick}
use Rattle.pots.specs.Settle.{sole}
use Rattle.pots.specs.Hand.{best_of, winners_of}
use Rattle.pots.proofs.hand.winners.Goals as goal

pub returns-then-sole : goal.returns-then-sole
unfolding winners_of
returns-then-sole c =
    let a = c.args in
    let n : length a.scores ≡ 10 = search rules in
    let e : sole (length a.scores) a.who ≡ true = ap (λ k. sole k a.who) n ∙ sym c.sole.ensures ∙ c.if-sole.true in
    sym (ap (λ (b : Bool). pick b a.who (best_of a.scores a.who)) e)

pub returns : goal.returns
unfolding winners_of
returns c =
    let a = c.args in
    let n : length a.scores ≡ 10 = search rules in
    let e : sole (length a.scores) a.who ≡ false = ap (λ k. sole k a.who) n ∙ sym c.sole.ensures ∙ c.if-sole.false in
    c.best.ensures ∙ sym (ap (λ (b : Bool). pick b a.who (best_of a.scores a.who)) e)
