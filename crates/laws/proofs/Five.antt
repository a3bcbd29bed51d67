-- A list of five is its five elements. For any element type. Assumes nothing.
use mathlib.Core.Path.{◌≡◌, refl}
use mathlib.Core.List.{List, [], ◌∷◌}
use native.Mathlib.Omega.{arith}
use lib.ListN.{length, get_or}

pub five_list : {A : Type 0} (o : A) (l : List A) → length l ≡ 5 → l ≡ get_or l 0 o ∷ get_or l 1 o ∷ get_or l 2 o ∷ get_or l 3 o ∷ get_or l 4 o ∷ []
five_list o [] h = absurd (omega arith)
five_list o (a ∷ []) h = absurd (omega arith)
five_list o (a ∷ b ∷ []) h = absurd (omega arith)
five_list o (a ∷ b ∷ c ∷ []) h = absurd (omega arith)
five_list o (a ∷ b ∷ c ∷ d ∷ []) h = absurd (omega arith)
five_list o (a ∷ b ∷ c ∷ d ∷ e ∷ []) h = refl
five_list o (a ∷ b ∷ c ∷ d ∷ e ∷ f ∷ l) h = absurd (omega arith)
