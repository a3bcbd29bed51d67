-- A rule of a table, shown at all of its rows by one test that antt computes, row after row. For rows of any type. Assumes nothing.
use mathlib.Core.Path.{◌≡◌, ◌∙◌, subst, sym}
use mathlib.Core.Bool.{Bool, true}
use mathlib.Core.List.{List, [], ◌∷◌}
use Prim.Native.Nat.{ℕ, zero, suc, ◌+◌, ◌<◌}
use native.Mathlib.Nat.{add-zero, zero-add, add-suc, suc-add, le_of_suc-le-suc, not-suc-le-zero}
use lib.ListN.{length, get_or}
use Rattle.laws.specs.Tests.{both}
use Rattle.laws.proofs.Tests.{both_true}

-- the test passes at each row and its place, counted from i
abbrev pub every : {A : Type 0} → (ℕ → A → Bool) → ℕ → List A → Bool
every f i [] = true
every f i (x ∷ xs) = both (f i x) (every f (suc i) xs)

from : {A : Type 0} (d : A) (f : ℕ → A → Bool) (xs : List A) (i : ℕ) → every f i xs ≡ true → (k : ℕ) → k < length xs → f (i + k) (get_or xs k d) ≡ true
from d f [] i t k h = absurd (not-suc-le-zero h)
from d f (x ∷ xs) i t zero h = subst (λ (m : ℕ). f m x ≡ true) (sym (add-zero i)) (both_true (f i x) (every f (suc i) xs) t).0
from d f (x ∷ xs) i t (suc k) h =
    subst (λ (m : ℕ). f m (get_or xs k d) ≡ true) (suc-add i k ∙ sym (add-suc i k))
    (from d f xs (suc i) (both_true (f i x) (every f (suc i) xs) t).1 k (le_of_suc-le-suc h))

pub row : {A : Type 0} (d : A) (f : ℕ → A → Bool) (xs : List A) → every f 0 xs ≡ true → (k : ℕ) → k < length xs → f k (get_or xs k d) ≡ true
row d f xs t k h = subst (λ (m : ℕ). f m (get_or xs k d) ≡ true) (zero-add k) (from d f xs 0 t k h)
