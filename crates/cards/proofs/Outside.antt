-- Whether some card is not of the deck: it is above 51, or below the least. Of the 52 cards none is below the least. For any number of cards. Assumes nothing.
use mathlib.Core.Path.{◌≡◌, refl, ap, ap₂, ◌∙◌}
use mathlib.Core.Bool.{Bool, true, false, ◌||◌}
use mathlib.Core.List.{List, [], ◌∷◌}
use Prim.Native.Nat.{ℕ, zero-le}
use lib.Dec.{ltb}
use borrow.Author.Tests.{le-ltb}
use Rattle.cards.specs.Reading.{any_above, any_below, least_card, any_outside}

four : (a b c d : Bool) → ((a || b) || (c || d)) ≡ ((a || c) || (b || d))
four true b c d = refl
four false true true d = refl
four false true false d = refl
four false false c d = refl

outside_is : (deck : ℕ) (l : List ℕ) → any_outside deck l ≡ (any_above l || any_below (least_card deck) l)
outside_is deck [] = refl
outside_is deck (c ∷ l) =
    ap (λ (b : Bool). (ltb 51 c || ltb c (least_card deck)) || b) (outside_is deck l)
    ∙ four (ltb 51 c) (ltb c (least_card deck)) (any_above l) (any_below (least_card deck) l)

none_below : (l : List ℕ) → any_below 0 l ≡ false
none_below [] = refl
none_below (c ∷ l) = ap₂ ◌||◌ (le-ltb c 0 zero-le) (none_below l)

-- of the 52 cards, some card is not of the deck exactly where one is above 51
pub outside52 : (l : List ℕ) → any_outside 52 l ≡ any_above l
outside52 l = outside_is 52 l ∙ ap (λ (b : Bool). any_above l || b) (none_below l) ∙ last (any_above l)
  where
    last : (b : Bool) → (b || false) ≡ b
    last true = refl
    last false = refl
