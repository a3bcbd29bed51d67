-- A turn of a loop over columns or scores and a mask, and its end: what is still to come is what the rest of both says. Assumes nothing.
use Prim.Native.Nat.{ℕ, zero, suc, ◌+◌, ◌-◌, ◌/◌, ◌%◌, ◌<◌, ◌≤◌, min, max}
use mathlib.Core.Path.{◌≡◌, refl}
use mathlib.Core.List.{List}
use native.Mathlib.Numerals.{add-one}
use native.Mathlib.Omega.{arith}
use lib.ListN.{length, get_or, drop, drop_of_length-le}
use lib.Seq.{drop-cons}
use lib.Dec.{eqb}
use Rattle.laws.specs.Tests.{pick}
use Rattle.columns.specs.Columns.{least_among, best_among, in_mask}

module _ (xs : List ℕ) (i m rest : ℕ) where
  pub least_turn : i < length xs → least_among m (drop i xs) rest ≡ least_among (pick (eqb (rest % 2) 1) (min (get_or xs i 0) m) m) (drop (i + 1) xs) (rest / 2)
  unfolding least_among
  least_turn h = rw (add-one i, drop-cons xs i 0 h) refl

  pub least_done : length xs ≤ i → least_among m (drop i xs) rest ≡ m
  unfolding least_among
  least_done h = rw (drop_of_length-le xs h) refl

  pub best_turn : i < length xs → best_among m (drop i xs) rest ≡ best_among (pick (eqb (rest % 2) 1) (max (get_or xs i 0) m) m) (drop (i + 1) xs) (rest / 2)
  unfolding best_among
  best_turn h = rw (add-one i, drop-cons xs i 0 h) refl

  pub best_done : length xs ≤ i → best_among m (drop i xs) rest ≡ m
  unfolding best_among
  best_done h = rw (drop_of_length-le xs h) refl

-- a place further down the mask
pub mask_turn : (rest n : ℕ) → 0 < n → in_mask rest n ≡ in_mask (rest / 2) (n - 1)
unfolding in_mask
mask_turn rest zero h = absurd (omega arith)
mask_turn rest (suc n) h = let e : suc n - 1 ≡ n = omega arith in rw e refl

pub mask_done : (rest n : ℕ) → n ≡ 0 → in_mask rest n ≡ eqb (rest % 2) 1
unfolding in_mask
mask_done rest zero e = refl
mask_done rest (suc n) e = absurd (omega arith)
