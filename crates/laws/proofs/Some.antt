-- A loop that looks for an element that passes a test: what is left of the list decides. For any test, any list and any element type.
-- Assumes nothing.
use mathlib.Core.Path.{◌≡◌}
use mathlib.Core.Bool.{Bool, true, false}
use mathlib.Core.List.{List, ◌∷◌}
use Prim.Native.Nat.{ℕ, ◌+◌, ◌<◌, ◌≤◌}
use native.Mathlib.Numerals.{add-one}
use lib.ListN.{length, drop, get_or, drop_of_length-le}
use lib.Seq.{drop-cons}
use Rattle.laws.specs.Some.{some}

module _ {A : Type 0} (d : A) (f : A → List A → Bool) (l : List A) (i : ℕ) where
  next : i < length l → drop i l ≡ get_or l i d ∷ drop (i + 1) l
  next lt = rw add-one (drop-cons l i d lt)

  -- it is this one
  pub some_here : i < length l → f (get_or l i d) (drop (i + 1) l) ≡ true → some f (drop i l) ≡ true
  unfolding some
  some_here lt e = rw (next lt, e)

  -- it is not this one
  pub some_next : i < length l → f (get_or l i d) (drop (i + 1) l) ≡ false → some f (drop i l) ≡ some f (drop (i + 1) l)
  unfolding some
  some_next lt e = rw (next lt, e)

  -- none is left
  pub some_end : length l ≤ i → some f (drop i l) ≡ false
  unfolding some
  some_end le = rw (drop_of_length-le l {i = i} le)
