-- `cards::choose::best_by` meets its contract. Assumes nothing.
use mathlib.Core.Path.{◌≡◌, refl, ◌∙◌}
use native.Mathlib.Omega.{arith}
use lib.ListN.{length}
use borrow.Author.Rules.{rules}
use Rattle.cards.specs.Searching.{units}
use Rattle.cards.proofs.Packing.{seven_best}
use Rattle.cards.proofs.Searched.{none_is}
use Rattle.cards.proofs.choose.best_by.Goals as goal

pub returns-then-cards-ne7 : goal.returns-then-cards-ne7
returns-then-cards-ne7 c = c.best_of_choices.ensures

pub search-requires : goal.search-requires
unfolding units
search-requires c =
    let s = c in
    let n : length s.args.ranking.places ≡ 9 = search rules in (
      record { some = omega arith; most = omega arith; unit_is = refl; taken = omega arith; left = c.seven_in-n.ensures.small },
      s.requires,
      none_is s.args.ranking n,
    )

pub returns : goal.returns
returns c =
    let s = c in
    seven_best s.args.ranking s.requires s.args.cards.now c.fallen.result c.seven_in-n.result _ c.if-cards-ne7.false
    c.fallen.ensures c.seven_in-n.ensures.is (c.hand_in.ensures ∙ c.search.ensures.is)
