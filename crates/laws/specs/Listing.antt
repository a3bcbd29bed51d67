-- Lists made of lists: what is listed for each element, the elements that pass a test, the choices of some of a list and how many there are; and which of two lists
-- of numbers is above the other. General: nothing here is about cards. Assumes nothing.
use Rattle.std.specs.Prelude.{Bool, true, false, cond, List, [], ◌∷◌, ◌++◌, map, ℕ, zero, suc, ◌+◌, eqb, ltb}
use Rattle.laws.specs.Tests.{both}

-- for each element, one after another, what f lists
abbrev pub each : {A B : Type 0} → List A → (A → List B) → List B
each [] f = []
each (x ∷ l) f = f x ++ each l f

-- those that pass
abbrev pub those : {A : Type 0} → (A → Bool) → List A → List A
those f [] = []
those f (x ∷ l) = cond (f x) (x ∷ those f l) (those f l)

-- how many choices of k there are of n
abbrev pub binomial : ℕ → ℕ → ℕ
binomial n zero = 1
binomial zero (suc k) = 0
binomial (suc n) (suc k) = binomial n k + binomial n (suc k)

-- the choices of k of the list, in its order
unfoldable pub choices : ℕ → List ℕ → List (List ℕ)
choices zero l = [] ∷ []
choices (suc k) [] = []
choices (suc k) (c ∷ l) = map (λ m. c ∷ m) (choices k l) ++ choices (suc k) l

-- the first list is above the second: it has the higher number at the first place where they differ
unfoldable pub above : List ℕ → List ℕ → Bool
above [] m = false
above (x ∷ l) [] = true
above (x ∷ l) (y ∷ m) = cond (eqb x y) (above l m) (ltb y x)

-- the two lists are the same
abbrev pub same_list : List ℕ → List ℕ → Bool
same_list [] [] = true
same_list [] (y ∷ m) = false
same_list (x ∷ l) [] = false
same_list (x ∷ l) (y ∷ m) = both (eqb x y) (same_list l m)
