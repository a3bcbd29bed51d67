-- Sums and largest of lists, and what stands at a place of a list that a function made. For any list.
-- Assumes nothing.
use Prim.Native.Nat.{ℕ, zero, suc, ◌+◌, ◌≤◌, ◌<◌, zero-le}
use mathlib.Core.Path.{◌≡◌, refl, sym, ap, ap₂}
use mathlib.Core.Bool.{Bool, true, false}
use mathlib.Core.Logic.{◌⊎◌, inl, inr}
use mathlib.Core.List.{List, [], ◌∷◌, ◌++◌, map}
use native.Mathlib.Nat.{zero-add}
use native.Mathlib.Omega.{arith}
use lib.Dec.{leb}
use lib.ListN.{length, get_or, drop, replicate}
use borrow.Author.Tests.{leb-true, leb-false}
use Rattle.laws.specs.Lists.{sum_of, max_of}

-- of two numbers one is not above the other
pub le_or_lt : (a b : ℕ) → (a ≤ b) ⊎ (b < a)
le_or_lt a b = go (leb a b) refl
  where
    go : (t : Bool) → leb a b ≡ t → (a ≤ b) ⊎ (b < a)
    go true e = inl (leb-true a b e)
    go false e = inr (leb-false a b e)

-- ---- sums
pub at_most_sum : (xs : List ℕ) (i : ℕ) → get_or xs i 0 ≤ sum_of xs
unfolding sum_of
at_most_sum [] i = zero-le
at_most_sum (x ∷ xs) zero = omega arith
at_most_sum (x ∷ xs) (suc i) = omega (arith, at_most_sum xs i)

-- the rest of a list has at most its sum
pub drop_sum : (xs : List ℕ) (i : ℕ) → sum_of (drop i xs) ≤ sum_of xs
unfolding sum_of
drop_sum xs zero = omega arith
drop_sum [] (suc i) = zero-le
drop_sum (x ∷ xs) (suc i) = omega (arith, drop_sum xs i)

pub sum_append : (xs ys : List ℕ) → sum_of (xs ++ ys) ≡ sum_of xs + sum_of ys
unfolding sum_of
sum_append [] ys = sym (zero-add (sum_of ys))
sum_append (x ∷ xs) ys = omega (arith, sum_append xs ys)

pub zeros_sum : (n : ℕ) → sum_of (replicate n 0) ≡ 0
unfolding sum_of
zeros_sum zero = refl
zeros_sum (suc n) = omega (arith, zeros_sum n)

pub zeros_at : (n i : ℕ) → ◌≡◌ {A = ℕ} (get_or (replicate n 0) i 0) 0
zeros_at zero i = refl
zeros_at (suc n) zero = refl
zeros_at (suc n) (suc i) = zeros_at n i

-- ---- the largest
pub at_most_max : (xs : List ℕ) (i : ℕ) → get_or xs i 0 ≤ max_of xs
unfolding max_of
at_most_max [] i = zero-le
at_most_max (x ∷ xs) zero = omega arith
at_most_max (x ∷ xs) (suc i) = omega (arith, at_most_max xs i)

-- the largest is no more than what no number of the list is above
pub max_at_most : (xs : List ℕ) (v : ℕ) → ((j : ℕ) → j < length xs → get_or xs j 0 ≤ v) → max_of xs ≤ v
unfolding max_of
max_at_most [] v h = omega arith
max_at_most (x ∷ xs) v h = omega (arith, h 0 (omega arith), max_at_most xs v (λ j p. h (suc j) (omega arith)))

-- ---- map
pub map_length : {A B : Type 0} (f : A → B) (xs : List A) → length (map f xs) ≡ length xs
map_length f [] = refl
map_length f (x ∷ xs) = ap suc (map_length f xs)

pub map_same : {A B : Type 0} (f g : A → B) (xs : List A) → ((x : A) → f x ≡ g x) → map f xs ≡ map g xs
map_same f g [] e = refl
map_same f g (x ∷ xs) e = ap₂ ◌∷◌ (e x) (map_same f g xs e)

pub map_at : (f : ℕ → ℕ) (xs : List ℕ) (i : ℕ) → i < length xs → get_or (map f xs) i 0 ≡ f (get_or xs i 0)
map_at f [] i l = absurd (omega arith)
map_at f (x ∷ xs) zero l = refl
map_at f (x ∷ xs) (suc i) l = map_at f xs i (omega arith)

-- ---- lists in two parts
pub swap : {A B : Type 0} → A ⊎ B → B ⊎ A
swap (inl a) = inr a
swap (inr b) = inl b
