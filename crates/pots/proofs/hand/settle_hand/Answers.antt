-- `settle_hand` meets its contract: what is added is what is due.
-- Assumes nothing.
use mathlib.Core.Path.{◌≡◌, sym, ap, ◌∙◌, ap₂}
use native.Mathlib.Omega.{arith}
use borrow.Author.Rules.{rules}
use lib.ListN.{length}
use Rattle.laws.specs.Lists.{sum_of}
use Rattle.pots.specs.Hand.{plus, due_of}
use Rattle.pots.proofs.Hands.{none_lost}
use Rattle.pots.proofs.hand.settle_hand.Goals.{After-back_each}
use Rattle.pots.proofs.hand.settle_hand.Goals as goal

due-is : (c : After-back_each)
    → let a = c.args in
    plus c.pay_all-w.result.each c.back_each.result ≡ due_of a.totals a.live a.scores a.rule a.puck
due-is c = ap₂ plus c.pay_all-w.ensures.1 c.back_each.ensures

pub added-requires : goal.added-requires
added-requires c =
    let a = c.args in
    let p = c.requires in
    let n : length a.scores ≡ 10 = search rules in
    let m : length a.totals ≡ 10 = search rules in
    omega (arith, ap sum_of (due-is (goal.at.added-requires c).After-back_each), none_lost a.totals a.live a.scores a.rule a.puck (n ∙ sym m) (omega (arith, p.1)), p.0)

pub returns : goal.returns
returns c = (omega (arith, c.pay_all-w.ensures.0), c.added.ensures ∙ due-is (goal.at.returns c).After-back_each, c.pay_all-w.ensures.2)
