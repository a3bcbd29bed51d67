-- What is an element of a list, of some of a list, of lists joined: for any element type and any length. General. Assumes nothing.
use mathlib.Core.Path.{◌≡◌, refl, sym, ap, ap₂, ◌∙◌, subst}
use mathlib.Core.Bool.{Bool, true, false, cond, ◌||◌, false≢true}
use mathlib.Core.Logic.{◌⊎◌, inl, inr, ⊎_elim}
use mathlib.Core.List.Memᴰ
use mathlib.Core.List.{List, [], ◌∷◌, ◌++◌, Memᴰ}
use Prim.Native.Nat.{ℕ, ◌<◌}
use native.Mathlib.Omega.{arith}
use lib.Dec.{eqb}
use borrow.Author.Tests.{eqb-true, eq-eqb}
use Rattle.std.specs.List.{list_any}
use Rattle.laws.specs.Tests.{one, both}
use Rattle.laws.specs.Lists.{All}
use Rattle.laws.specs.Often.{count}
use Rattle.laws.specs.Listing.{each, those, same_list}
use Rattle.laws.proofs.Tests.{test, both_true}

-- each element passes
abbrev pub all_pass : {A : Type 0} → (A → Bool) → List A → Bool
all_pass f [] = true
all_pass f (x ∷ l) = both (f x) (all_pass f l)

module _ {A : Type 0} where
  -- what holds of every element holds of this one
  pub all_at : (P : A → Type 0) (x : A) (l : List A) → All P l → Memᴰ x l → P x
  all_at P x [] a i = absurd (Memᴰ.not-nil i)
  all_at P x (y ∷ l) a i =
      ⊎_elim (λ (e : x ≡ y). subst P (sym e) a.0) (λ (j : Memᴰ x l). all_at P x l a.1 j) (Memᴰ.cases_cons i)

  -- and the other way
  pub at_all : (P : A → Type 0) (l : List A) → ((x : A) → Memᴰ x l → P x) → All P l
  at_all P [] h = tt
  at_all P (x ∷ l) h = (h x (Memᴰ.head refl), at_all P l (λ y i. h y (Memᴰ.tail i)))

  pub all_append : (P : A → Type 0) (l m : List A) → All P l → All P m → All P (l ++ m)
  all_append P [] m a b = b
  all_append P (x ∷ l) m a b = (a.0, all_append P l m a.1 b)

  pub pass_all : (f : A → Bool) (l : List A) → all_pass f l ≡ true → All (λ x. f x ≡ true) l
  pass_all f [] e = tt
  pass_all f (x ∷ l) e = let p = both_true (f x) (all_pass f l) e in (p.0, pass_all f l p.1)

  pub pass_at : (f : A → Bool) (x : A) (l : List A) → all_pass f l ≡ true → Memᴰ x l → f x ≡ true
  pass_at f x l e i = all_at (λ y. f y ≡ true) x l (pass_all f l e) i

  -- an element that passes is one of those that pass
  pub those_has : (f : A → Bool) (x : A) (l : List A) → f x ≡ true → Memᴰ x l → Memᴰ x (those f l)
  those_has f x [] e i = absurd (Memᴰ.not-nil i)
  those_has f x (y ∷ l) e i =
      ⊎_elim
      (λ (q : x ≡ y). subst (λ (b : Bool). Memᴰ x (cond b (y ∷ those f l) (those f l))) (sym (ap f (sym q) ∙ e)) (Memᴰ.head q))
      (λ (j : Memᴰ x l). go (f y) (those_has f x l e j))
      (Memᴰ.cases_cons i)
    where
      go : (b : Bool) → Memᴰ x (those f l) → Memᴰ x (cond b (y ∷ those f l) (those f l))
      go true j = Memᴰ.tail j
      go false j = j

  -- what is listed for an element is listed
  pub each_has : {B : Type 0} (f : A → List B) (x : A) (y : B) (l : List A) → Memᴰ x l → Memᴰ y (f x) → Memᴰ y (each l f)
  each_has f x y [] i j = absurd (Memᴰ.not-nil i)
  each_has f x y (z ∷ l) i j =
      ⊎_elim
      (λ (q : x ≡ z). Memᴰ.append_left (each l f) (subst (λ (w : A). Memᴰ y (f w)) q j))
      (λ (k : Memᴰ x l). Memᴰ.append_right (f z) (each_has f x y l k j))
      (Memᴰ.cases_cons i)

-- a number that stands in a list is an element
pub count_has : (x : ℕ) (l : List ℕ) → 0 < count x l → Memᴰ x l
count_has x [] h = absurd (omega arith)
count_has x (y ∷ l) h =
    ⊎_elim
    (λ (e : eqb x y ≡ true). Memᴰ.head (eqb-true x y e))
    (λ (e : eqb x y ≡ false). let o : one (eqb x y) ≡ 0 = ap one e in Memᴰ.tail (count_has x l (omega arith)))
    (test (eqb x y))

-- two lists of numbers that the test finds the same are
pub same_list_law : (l m : List ℕ) → same_list l m ≡ true → l ≡ m
same_list_law [] [] e = refl
same_list_law [] (y ∷ m) e = absurd (false≢true e)
same_list_law (x ∷ l) [] e = absurd (false≢true e)
same_list_law (x ∷ l) (y ∷ m) e = let p = both_true (eqb x y) (same_list l m) e in ap₂ ◌∷◌ (eqb-true x y p.0) (same_list_law l m p.1)

pub list_same : (l : List ℕ) → same_list l l ≡ true
list_same [] = refl
list_same (x ∷ l) = ap (λ (b : Bool). both b (same_list l l)) (eq-eqb x x refl) ∙ list_same l

or_true : (a b : Bool) → (a || b) ≡ true → (a ≡ true) ⊎ (b ≡ true)
or_true true b e = inl refl
or_true false b e = inr e

module _ {A : Type 0} (f : A → Bool) where
  -- some element passes
  pub some_has : (l : List A) → list_any f l ≡ true → (x : A) × Memᴰ x l × (f x ≡ true)
  some_has [] e = absurd (false≢true e)
  some_has (x ∷ l) e =
      ⊎_elim
      (λ (h : f x ≡ true). (x, Memᴰ.head refl, h))
      (λ (h : list_any f l ≡ true). let t = some_has l h in (t.0, Memᴰ.tail t.1, t.2))
      (or_true (f x) (list_any f l) e)

  pub has_some : (x : A) (l : List A) → Memᴰ x l → f x ≡ true → list_any f l ≡ true
  has_some x [] i e = absurd (Memᴰ.not-nil i)
  has_some x (y ∷ l) i e =
      ⊎_elim
      (λ (q : x ≡ y). ap (λ (b : Bool). b || list_any f l) (ap f (sym q) ∙ e))
      (λ (j : Memᴰ x l). go (f y) (has_some x l j e))
      (Memᴰ.cases_cons i)
    where
      go : (b : Bool) → list_any f l ≡ true → (b || list_any f l) ≡ true
      go true h = refl
      go false h = h
