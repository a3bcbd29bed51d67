-- The ladder, computed: how many stand in each class, that each beats the next, and that the closed form counts down along it from 7,462.
-- Assumes nothing.
use mathlib.Core.Path.{◌≡◌, refl}
use mathlib.Core.List.{[], ◌∷◌, map}
use mathlib.Core.Bool.{true}
use lib.ListN.{length}
use Rattle.cards.specs.Cards.{in_row}
use Rattle.cards.specs.Order.{choices, above, ranking52}
use Rattle.cards.proofs.Above.{beats_irrefl, beats_trans}
use Rattle.ladder.specs.Ladder.{classes, ladder, beats52}
use Rattle.ladder.specs.Reckoned.{chosen_of, less, two_below, three_below, five_below, row_place, beside_place, four_place, full_place, rows_below, odd_place, three_place, two_pair_place, pair_place, reckoned_as, reckoned}
use Rattle.laws.proofs.Standing.{FallsBy, steps_by, counts_down, Orders, steps_fall}

-- "Per class, top down: 10, 156, 156, 1,277, 10, 858, 858, 2,860 and 1,277 places"
pub class_lengths : map length classes ≡ 10 ∷ 156 ∷ 156 ∷ 1277 ∷ 10 ∷ 858 ∷ 858 ∷ 2860 ∷ 1277 ∷ []
unfolding choices in_row
class_lengths = refl

pub ladder_length : length ladder ≡ 7462
unfolding ladder choices in_row
ladder_length = refl

pub hands_order : Orders beats52
hands_order = record { irrefl = beats_irrefl ranking52; trans = beats_trans ranking52 }

steps : steps_by beats52 ladder ≡ true
unfolding ladder choices in_row above
steps = refl

pub ladder_falls : FallsBy beats52 ladder
ladder_falls = steps_fall beats52 hands_order ladder steps

pub reckoned_down : counts_down reckoned 7462 ladder ≡ true
unfolding ladder choices in_row chosen_of less two_below three_below five_below row_place beside_place four_place full_place rows_below odd_place three_place two_pair_place pair_place reckoned_as
reckoned_down = refl
