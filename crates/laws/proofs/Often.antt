-- Two lists of the same numbers, each as often, pass every test as often: they are as long as one another, and what is counted of them is the same.
-- For lists of any length. Assumes nothing.
use mathlib.Core.Path.{◌≡◌, refl, sym, ap, ◌∙◌}
use mathlib.Core.Bool.{Bool, true, false, cond}
use mathlib.Core.Logic.{⊎_elim}
use mathlib.Core.List.{List, [], ◌∷◌, ◌++◌, map}
use Prim.Native.Nat.{ℕ, ◌+◌, ◌<◌, ◌≤◌}
use native.Mathlib.Omega.{arith}
use lib.Dec.{eqb}
use lib.ListN.{length}
use borrow.Author.Tests.{eqb-true, eq-eqb}
use Rattle.laws.specs.Tests.{one}
use Rattle.laws.specs.Often.{tally, count, SameNumbers}
use Rattle.laws.proofs.Tests.{test}

-- x taken out of a list, once
abbrev pub without : ℕ → List ℕ → List ℕ
without x [] = []
without x (y ∷ l) = cond (eqb x y) l (y ∷ without x l)

without_here : (x y : ℕ) (l : List ℕ) → eqb x y ≡ true → without x (y ∷ l) ≡ l
without_here x y l e = ap (λ (b : Bool). cond b l (y ∷ without x l)) e

without_later : (x y : ℕ) (l : List ℕ) → eqb x y ≡ false → without x (y ∷ l) ≡ y ∷ without x l
without_later x y l e = ap (λ (b : Bool). cond b l (y ∷ without x l)) e

pub one_small : (b : Bool) → one b ≤ 1
one_small true = omega arith
one_small false = omega arith

-- what is counted of the list is what is counted of x and of the rest
pub without_tally : (f : ℕ → Bool) (x : ℕ) (l : List ℕ) → 0 < count x l → tally f l ≡ one (f x) + tally f (without x l)
without_tally f x [] h = absurd (omega arith)
without_tally f x (y ∷ l) h =
    ⊎_elim
    (λ e. ap (λ (z : ℕ). one (f z) + tally f l) (sym (eqb-true x y e)) ∙ ap (λ (m : List ℕ). one (f x) + tally f m) (sym (without_here x y l e)))
    (λ e.
    let z : one (eqb x y) ≡ 0 = ap one e in
    let ih : tally f l ≡ one (f x) + tally f (without x l) = without_tally f x l (omega arith) in
    let n : one (f y) + tally f l ≡ one (f x) + (one (f y) + tally f (without x l)) = omega arith in
    n ∙ ap (λ (m : List ℕ). one (f x) + tally f m) (sym (without_later x y l e)))
    (test (eqb x y))

pub count_self : (x : ℕ) (l : List ℕ) → count x (x ∷ l) ≡ 1 + count x l
count_self x l = ap (λ (b : Bool). one b + count x l) (eq-eqb x x refl)

pub count_append : (x : ℕ) (l m : List ℕ) → count x (l ++ m) ≡ count x l + count x m
count_append x [] m = omega arith
count_append x (c ∷ l) m = omega (arith, count_append x l m)

none_left : (m : List ℕ) → SameNumbers [] m → [] ≡ m
none_left [] s = refl
none_left (y ∷ m) s = absurd (omega (arith, s y, count_self y m))

pub tally_same : (f : ℕ → Bool) (l m : List ℕ) → SameNumbers l m → tally f l ≡ tally f m
tally_same f [] m s = ap (tally f) (none_left m s)
tally_same f (x ∷ l) m s =
    let h : 0 < count x m = omega (arith, s x, count_self x l) in
    let rest : SameNumbers l (without x m) = λ y. omega (arith, s y, without_tally (eqb y) x m h) in
    let ih : tally f l ≡ tally f (without x m) = tally_same f l (without x m) rest in
    ap (λ (n : ℕ). one (f x) + n) ih ∙ sym (without_tally f x m h)

pub tally_map : {A B : Type 0} (f : B → Bool) (g : A → B) (l : List A) → tally f (map g l) ≡ tally (λ x. f (g x)) l
tally_map f g [] = refl
tally_map f g (x ∷ l) = ap (λ (n : ℕ). one (f (g x)) + n) (tally_map f g l)

-- what a function makes of them is the same numbers too
pub same_map : (g : ℕ → ℕ) (l m : List ℕ) → SameNumbers l m → SameNumbers (map g l) (map g m)
same_map g l m s x = tally_map (eqb x) g l ∙ tally_same (λ y. eqb x (g y)) l m s ∙ sym (tally_map (eqb x) g m)

tally_all : {A : Type 0} (l : List A) → tally (λ x. true) l ≡ length l
tally_all [] = refl
tally_all (x ∷ l) = let ih = tally_all l in omega arith

pub same_length : (l m : List ℕ) → SameNumbers l m → length l ≡ length m
same_length l m s = sym (tally_all l) ∙ tally_same (λ x. true) l m s ∙ tally_all m

pub without_length : (x : ℕ) (l : List ℕ) → 0 < count x l → length l ≡ 1 + length (without x l)
without_length x l h = sym (tally_all l) ∙ without_tally (λ y. true) x l h ∙ ap (λ (n : ℕ). 1 + n) (tally_all (without x l))

pub tally_most : {A : Type 0} (f : A → Bool) (l : List A) → tally f l ≤ length l
tally_most f [] = omega arith
tally_most f (x ∷ l) = let ih = tally_most f l in omega (arith, one_small (f x))
