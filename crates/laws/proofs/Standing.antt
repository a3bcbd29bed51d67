-- A list that falls: each element is above all that follow it. How many an element is above tells the elements apart as the order does, and in a list
-- that falls it counts down from the list's length. For any order and any length. General. Assumes nothing.
use mathlib.Core.Path.{◌≡◌, refl, sym, ap, ◌∙◌}
use mathlib.Core.Bool.{Bool, true, false, false≢true}
use mathlib.Core.Logic.{⊎_elim}
use mathlib.Core.List.Memᴰ
use mathlib.Core.List.{List, [], ◌∷◌, ◌++◌, Memᴰ}
use Prim.Native.Nat.{ℕ, suc, ◌-◌, ◌<◌, ◌≤◌}
use native.Mathlib.Omega.{arith}
use native.Mathlib.Decide.{dec_lt}
use lib.Dec.{eqb}
use lib.ListN.{length}
use borrow.Author.Tests.{eqb-true}
use Rattle.laws.specs.Tests.{one, both}
use Rattle.laws.specs.Lists.{All}
use Rattle.laws.specs.Often.{tally}
use Rattle.laws.proofs.Tests.{test, both_true}
use Rattle.laws.proofs.Often.{one_small, tally_most}
use Rattle.laws.proofs.Members.{all_at, all_append}

-- each is above all that follow
abbrev pub FallsBy : {A : Type 0} → (A → A → Bool) → List A → Type 0
FallsBy r [] = Unit {0}
FallsBy r (x ∷ l) = All (λ y. r x y ≡ true) l × FallsBy r l

-- each is above the next
abbrev pub steps_by : {A : Type 0} → (A → A → Bool) → List A → Bool
steps_by r [] = true
steps_by r (x ∷ []) = true
steps_by r (x ∷ y ∷ l) = both (r x y) (steps_by r (y ∷ l))

-- f counts down along the list, from n
abbrev pub counts_down : {A : Type 0} → (A → ℕ) → ℕ → List A → Bool
counts_down f n [] = true
counts_down f n (x ∷ l) = both (eqb (f x) n) (counts_down f (n - 1) l)

-- an order: nothing is above itself, and what is above another is above all below that
pub record Orders {A : Type 0} (r : A → A → Bool) : Type 0 where
  pub irrefl : (x : A) → r x x ≡ false
  pub trans : (x y z : A) → r x y ≡ true → r y z ≡ true → r x z ≡ true

module _ {A : Type 0} (r : A → A → Bool) (o : Orders r) where
  over_all : (x y : A) (l : List A) → r x y ≡ true → All (λ z. r y z ≡ true) l → All (λ z. r x z ≡ true) l
  over_all x y [] e a = tt
  over_all x y (z ∷ l) e a = (o.trans x y z e a.0, over_all x y l e a.1)

  pub steps_fall : (l : List A) → steps_by r l ≡ true → FallsBy r l
  steps_fall [] e = tt
  steps_fall (x ∷ []) e = (tt, tt)
  steps_fall (x ∷ y ∷ l) e =
      let p = both_true (r x y) (steps_by r (y ∷ l)) e in
      let f = steps_fall (y ∷ l) p.1 in
      ((p.0, over_all x y l p.0 f.0), f)

  pub asym : (x y : A) → r x y ≡ true → r y x ≡ false
  asym x y e = ⊎_elim (λ (k : r y x ≡ true). absurd (false≢true (sym (o.irrefl x) ∙ o.trans x y x e k))) (λ k. k) (test (r y x))

  -- what is above another is above as many at least
  as_many : (x y : A) (l : List A) → r x y ≡ true → tally (r y) l ≤ tally (r x) l
  as_many x y [] e = omega arith
  as_many x y (z ∷ l) e =
      ⊎_elim
      (λ (k : r y z ≡ true). let a : one (r y z) ≡ 1 = ap one k in let b : one (r x z) ≡ 1 = ap one (o.trans x y z e k) in omega (arith, a, b, as_many x y l e))
      (λ (k : r y z ≡ false). let a : one (r y z) ≡ 0 = ap one k in omega (arith, a, as_many x y l e))
      (test (r y z))

  -- and, where the other is in the list, above more
  pub more : (x y : A) (l : List A) → r x y ≡ true → Memᴰ y l → tally (r y) l < tally (r x) l
  more x y [] e i = absurd (Memᴰ.not-nil i)
  more x y (z ∷ l) e i =
      ⊎_elim
      (λ (q : y ≡ z).
      let a : one (r y z) ≡ 0 = ap one (ap (r y) (sym q) ∙ o.irrefl y) in
      let b : one (r x z) ≡ 1 = ap one (ap (r x) (sym q) ∙ e) in
      omega (arith, a, b, as_many x y l e))
      (λ (j : Memᴰ y l).
      ⊎_elim
      (λ (k : r y z ≡ true). let a : one (r y z) ≡ 1 = ap one k in let b : one (r x z) ≡ 1 = ap one (o.trans x y z e k) in omega (arith, a, b, more x y l e j))
      (λ (k : r y z ≡ false). let a : one (r y z) ≡ 0 = ap one k in omega (arith, a, more x y l e j))
      (test (r y z)))
      (Memᴰ.cases_cons i)

  -- none is above all of a list that it is in
  pub fewer : (x : A) (l : List A) → Memᴰ x l → tally (r x) l < length l
  fewer x [] i = absurd (Memᴰ.not-nil i)
  fewer x (y ∷ l) i =
      ⊎_elim
      (λ (q : x ≡ y). let a : one (r x y) ≡ 0 = ap one (ap (r x) (sym q) ∙ o.irrefl x) in omega (arith, a, tally_most (r x) l))
      (λ (j : Memᴰ x l). omega (arith, one_small (r x y), fewer x l j))
      (Memᴰ.cases_cons i)

  all_below : (x : A) (l : List A) → All (λ y. r x y ≡ true) l → tally (r x) l ≡ length l
  all_below x [] a = refl
  all_below x (y ∷ l) a = let b : one (r x y) ≡ 1 = ap one a.0 in omega (arith, b, all_below x l a.1)

  -- the first is above all the others
  pub first_below : (x : A) (l : List A) → FallsBy r (x ∷ l) → tally (r x) (x ∷ l) ≡ length l
  first_below x l f = let b : one (r x x) ≡ 0 = ap one (o.irrefl x) in omega (arith, b, all_below x l f.0)

  -- and no later one is above the first
  pub later_below : (x y : A) (l : List A) → FallsBy r (x ∷ l) → Memᴰ y l → tally (r y) (x ∷ l) ≡ tally (r y) l
  later_below x y l f i =
      let b : one (r y x) ≡ 0 = ap one (asym x y (all_at (λ z. r x z ≡ true) y l f.0 i)) in
      omega (arith, b)

  -- each number below the length is how many some element is above
  pub occurs : (l : List A) → FallsBy r l → (k : ℕ) → k < length l → (x : A) × Memᴰ x l × (tally (r x) l ≡ k)
  occurs [] f k h = absurd (omega arith)
  occurs (x ∷ l) f k h = elim (dec_lt k (length l)) [
    | yes a ↦ let t = occurs l f.1 k a in (t.0, Memᴰ.tail t.1, later_below x t.0 l f t.1 ∙ t.2)
    | no a ↦ (x, Memᴰ.head refl, omega (arith, first_below x l f))
  ]

  -- what counts down along the list is how many an element is above, and one more
  pub counted : (f : A → ℕ) (l : List A) (n : ℕ) → n ≡ length l → counts_down f n l ≡ true → FallsBy r l → (x : A) → Memᴰ x l → f x ≡ suc (tally (r x) l)
  counted f [] n e c g x i = absurd (Memᴰ.not-nil i)
  counted f (y ∷ l) n e c g x i =
      let p = both_true (eqb (f y) n) (counts_down f (n - 1) l) c in
      ⊎_elim
      (λ (q : x ≡ y). ap f q ∙ eqb-true (f y) n p.0 ∙ e ∙ ap suc (sym (first_below y l g)) ∙ ap (λ (z : A). suc (tally (r z) (y ∷ l))) (sym q))
      (λ (j : Memᴰ x l). counted f l (n - 1) (omega arith) p.1 g.1 x j ∙ ap suc (sym (later_below y x l g j)))
      (Memᴰ.cases_cons i)

-- two lists that fall, each of the first above all of the second, joined
pub falls_append : {A : Type 0} (r : A → A → Bool) (l m : List A) → FallsBy r l → FallsBy r m → All (λ x. All (λ y. r x y ≡ true) m) l → FallsBy r (l ++ m)
falls_append r [] m f g a = g
falls_append r (x ∷ l) m f g a = (all_append (λ y. r x y ≡ true) l m f.0 a.0, falls_append r l m f.1 g a.1)
