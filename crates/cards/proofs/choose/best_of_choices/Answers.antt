-- `cards::choose::best_of_choices` meets its contract. Assumes nothing.
use mathlib.Core.Path.{◌≡◌, ◌∙◌}
use native.Mathlib.Omega.{arith}
use lib.ListN.{length}
use Rattle.cards.proofs.Searched.{none_is, found_none, found_best}
use borrow.Author.Rules.{rules}
use Rattle.cards.proofs.choose.best_of_choices.Goals as goal

pub returns-then-cards-lt5 : goal.returns-then-cards-lt5
returns-then-cards-lt5 c = found_none _ _ _ c.if-cards-lt5.true c.hand_in.ensures

pub best-requires : goal.best-requires
best-requires c =
    let n : length c.args.ranking.places ≡ 9 = search rules in
    (omega arith, omega arith, omega arith, c.requires, none_is c.args.ranking n)

pub returns : goal.returns
returns c = found_best _ _ _ (c.hand_in-2.ensures ∙ c.best.ensures.is)
