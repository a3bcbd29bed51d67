-- How many elements of a list pass a test; how often a number stands in a list; two lists of the same numbers. Assumes nothing.
use Rattle.std.specs.Prelude.{Bool, ◌≡◌, List, [], ◌∷◌, ℕ, ◌+◌, eqb}
use Rattle.laws.specs.Tests.{one}

-- how many pass
abbrev pub tally : {A : Type 0} → (A → Bool) → List A → ℕ
tally f [] = 0
tally f (x ∷ xs) = one (f x) + tally f xs

-- how often x is there
abbrev pub count : ℕ → List ℕ → ℕ
count x l = tally (eqb x) l

-- each number is as often in the one as in the other: the two differ in order alone
abbrev pub SameNumbers : List ℕ → List ℕ → Type 0
SameNumbers l m = (x : ℕ) → count x l ≡ count x m
