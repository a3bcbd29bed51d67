-- Sums and tests over the numbers below a bound, a list made place by place, and a list changed place by place. Assumes nothing.
use Rattle.std.specs.Prelude.{ℕ, zero, suc, ◌+◌, Bool, true, List, [], ◌∷◌, ◌++◌}
use Rattle.laws.specs.Tests.{both, pick}

-- f 0 + f 1 + .. + f (n - 1)
abbrev pub sum_to : ℕ → (ℕ → ℕ) → ℕ
sum_to zero f = 0
sum_to (suc n) f = sum_to n f + f n

-- a test that passes at each number below n
abbrev pub all_to : ℕ → (ℕ → Bool) → Bool
all_to zero f = true
all_to (suc n) f = both (all_to n f) (f n)

-- the first number from k on, of n, at which a test passes; behind them all where there is none
abbrev pub first_from : ℕ → (ℕ → Bool) → ℕ → ℕ
first_from zero f k = k
first_from (suc n) f k = pick (f k) k (first_from n f (suc k))

-- f 0, f 1, .. f (n - 1)
abbrev pub list_to : {A : Type 0} → ℕ → (ℕ → A) → List A
list_to zero f = []
list_to (suc n) f = list_to n f ++ (f n ∷ [])

-- each element changed by what stands for its place
abbrev pub each_by : {A : Type 0} → (ℕ → A → A) → List A → List A
each_by f [] = []
each_by f (x ∷ xs) = f 0 x ∷ each_by (λ i. f (suc i)) xs
