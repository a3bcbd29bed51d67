-- The refusal numbers are those of document 01's table, from 0 at its top to 12: a name with another number is refused here. Assumes nothing.
use mathlib.Core.List.{[], ◌∷◌}
use mathlib.Core.Path.{◌≡◌, refl}
use Rattle.paper.specs.RefusalNumbers.{column}

pub column_is : column ≡ 0 ∷ 1 ∷ 2 ∷ 3 ∷ 4 ∷ 5 ∷ 6 ∷ 7 ∷ 8 ∷ 9 ∷ 10 ∷ 11 ∷ 12 ∷ []
column_is = refl
