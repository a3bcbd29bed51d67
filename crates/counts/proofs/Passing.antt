-- The numbers that pass a test, from high to low: each below the one before, each once, and the first of them the highest; and the same without one of them.
-- For any bound and any test. Assumes nothing.
use mathlib.Core.Path.{◌≡◌, refl, sym, ap, ap₂, ◌∙◌, subst}
use mathlib.Core.Bool.{Bool, true, false, not, true≢false}
use mathlib.Core.Logic.{⊎_elim}
use mathlib.Core.List.{List, [], ◌∷◌}
use Prim.Native.Nat.{ℕ, zero, suc, ◌<◌, ◌≤◌}
use native.Mathlib.Omega.{arith}
use native.Mathlib.Decide.{dec_lt}
use lib.Dec.{eqb}
use lib.ListN.{drop}
use borrow.Author.Tests.{eq-eqb, ne_eqb}
use Rattle.laws.specs.Tests.{one, both, pick}
use Rattle.laws.specs.Often.{count, SameNumbers}
use Rattle.laws.proofs.Tests.{test}
use Rattle.laws.proofs.Often.{count_self}
use Rattle.laws.proofs.Choosing.{Drops, drops_up}
use Rattle.counts.specs.HandOrder.{passing, highest, leaving}

pub passing_drops : (n : ℕ) (p : ℕ → Bool) → Drops n (passing n p)
unfolding passing
passing_drops zero p = tt
passing_drops (suc n) p = go (p n) (passing_drops n p)
  where
    go : (b : Bool) → Drops n (passing n p) → Drops (suc n) (pick b (n ∷ passing n p) (passing n p))
    go true d = (omega arith, d)
    go false d = drops_up n (suc n) (passing n p) (omega arith) d

-- none that is not below x is in a list that drops from x
pub drops_none : (x k : ℕ) (l : List ℕ) → Drops x l → x ≤ k → count k l ≡ 0
drops_none x k [] d h = refl
drops_none x k (y ∷ l) d h =
    let o : one (eqb k y) ≡ 0 = ap one (ne_eqb k y (λ e. omega (arith, d.0))) in
    omega (arith, o, drops_none y k l d.1 (omega (arith, d.0)))

pub passing_at : (n : ℕ) (p : ℕ → Bool) → p n ≡ true → passing (suc n) p ≡ n ∷ passing n p
unfolding passing
passing_at n p e = ap (λ (b : Bool). pick b (n ∷ passing n p) (passing n p)) e

pub passing_not : (n : ℕ) (p : ℕ → Bool) → p n ≡ false → passing (suc n) p ≡ passing n p
unfolding passing
passing_not n p e = ap (λ (b : Bool). pick b (n ∷ passing n p) (passing n p)) e

-- how often a number is there: once where it is below the bound and passes
pub passing_count : (n : ℕ) (p : ℕ → Bool) (r : ℕ) → r < n → count r (passing n p) ≡ one (p r)
passing_count zero p r h = absurd (omega arith)
passing_count (suc n) p r h = elim (dec_lt r n) [
  | yes a ↦
      let o : one (eqb r n) ≡ 0 = ap one (ne_eqb r n (λ e. omega arith)) in
      let ih = passing_count n p r a in
      ⊎_elim
      (λ (e : p n ≡ true). ap (count r) (passing_at n p e) ∙ omega (arith, o, ih))
      (λ (e : p n ≡ false). ap (count r) (passing_not n p e) ∙ ih)
      (test (p n))
  | no a ↦
      let q : r ≡ n = omega arith in
      let z : count r (passing n p) ≡ 0 = drops_none n r (passing n p) (passing_drops n p) (omega arith) in
      ⊎_elim
      (λ (e : p n ≡ true).
      let o : one (eqb r n) ≡ 1 = ap one (eq-eqb r n q) in
      let i : one (p r) ≡ 1 = ap (λ (k : ℕ). one (p k)) q ∙ ap one e in
      ap (count r) (passing_at n p e) ∙ omega (arith, o, z, i))
      (λ (e : p n ≡ false).
      let i : one (p r) ≡ 0 = ap (λ (k : ℕ). one (p k)) q ∙ ap one e in
      ap (count r) (passing_not n p e) ∙ omega (arith, z, i))
      (test (p n))
]

-- the same test, the same numbers
pub passing_same : (n : ℕ) (p q : ℕ → Bool) → ((i : ℕ) → i < n → p i ≡ q i) → passing n p ≡ passing n q
unfolding passing
passing_same zero p q h = refl
passing_same (suc n) p q h = ap₂ (λ (b : Bool) (l : List ℕ). pick b (n ∷ l) l) (h n (omega arith)) (passing_same n p q (λ i lt. h i (omega arith)))

pub passing_none : (n : ℕ) (p : ℕ → Bool) → ((i : ℕ) → i < n → p i ≡ false) → passing n p ≡ []
passing_none zero p h = unfold passing in refl
passing_none (suc n) p h = passing_not n p (h n (omega arith)) ∙ passing_none n p (λ i lt. h i (omega arith))

-- ---- the first
pub first_below : (x : ℕ) (l : List ℕ) → 0 < x → Drops x l → highest l < x
first_below x [] h d = h
first_below x (y ∷ l) h d = d.0

-- the first is there
pub first_there : (l : List ℕ) → 0 < highest l → 0 < count (highest l) l
first_there [] h = absurd (omega arith)
first_there (x ∷ l) h = omega (arith, count_self x l)

pub highest_is : (n : ℕ) (p : ℕ → Bool) (j : ℕ) → j < n → p j ≡ true → ((i : ℕ) → j < i → i < n → p i ≡ false) → highest (passing n p) ≡ j
highest_is zero p j h e f = absurd (omega arith)
highest_is (suc n) p j h e f = elim (dec_lt j n) [
  | yes a ↦ ap highest (passing_not n p (f n a (omega arith))) ∙ highest_is n p j a e (λ i lo hi. f i lo (omega arith))
  | no a ↦ let q : n ≡ j = omega arith in ap highest (passing_at n p (ap p q ∙ e)) ∙ q
]

-- whatever passes is not above it
pub highest_most : (n : ℕ) (p : ℕ → Bool) (i : ℕ) → i < n → p i ≡ true → i ≤ highest (passing n p)
highest_most zero p i h e = absurd (omega arith)
highest_most (suc n) p i h e =
    ⊎_elim
    (λ (t : p n ≡ true). let q : highest (passing (suc n) p) ≡ n = ap highest (passing_at n p t) in omega (arith, q))
    (λ (t : p n ≡ false).
    let q : highest (passing (suc n) p) ≡ highest (passing n p) = ap highest (passing_not n p t) in
    elim (dec_lt i n) [ yes a ↦ omega (arith, q, highest_most n p i a e) | no a ↦ absurd (true≢false (sym e ∙ ap p (last i n h a) ∙ t)) ])
    (test (p n))
  where
    last : (i n : ℕ) → i < suc n → (i < n → ⊥) → i ≡ n
    last i n h a = omega arith

-- and it passes
pub highest_passes : (n : ℕ) (p : ℕ → Bool) → 0 < highest (passing n p) → p (highest (passing n p)) ≡ true
highest_passes zero p h = absurd (unfold passing in omega (arith, h))
highest_passes (suc n) p h =
    ⊎_elim
    (λ (t : p n ≡ true). ap (λ (l : List ℕ). p (highest l)) (passing_at n p t) ∙ t)
    (λ (t : p n ≡ false).
    let q : highest (passing (suc n) p) ≡ highest (passing n p) = ap highest (passing_not n p t) in
    ap p q ∙ highest_passes n p (omega (arith, q, h)))
    (test (p n))

-- ---- without one of them
leaving_here : (r x : ℕ) (l : List ℕ) → eqb r x ≡ true → leaving r (x ∷ l) ≡ leaving r l
unfolding leaving
leaving_here r x l e = ap (λ (b : Bool). pick b (leaving r l) (x ∷ leaving r l)) e

leaving_later : (r x : ℕ) (l : List ℕ) → eqb r x ≡ false → leaving r (x ∷ l) ≡ x ∷ leaving r l
unfolding leaving
leaving_later r x l e = ap (λ (b : Bool). pick b (leaving r l) (x ∷ leaving r l)) e

-- the others are as often there, and the one is not
pub leaving_less : (r x : ℕ) (l : List ℕ) → count x (leaving r l) ≤ count x l
leaving_less r x [] = unfold leaving in omega arith
leaving_less r x (y ∷ l) =
    ⊎_elim
    (λ (e : eqb r y ≡ true). omega (arith, ap (count x) (leaving_here r y l e), leaving_less r x l))
    (λ (e : eqb r y ≡ false). omega (arith, ap (count x) (leaving_later r y l e), leaving_less r x l))
    (test (eqb r y))

pub leaving_none : (r : ℕ) (l : List ℕ) → count r (leaving r l) ≡ 0
leaving_none r [] = unfold leaving in refl
leaving_none r (y ∷ l) =
    ⊎_elim
    (λ (e : eqb r y ≡ true). ap (count r) (leaving_here r y l e) ∙ leaving_none r l)
    (λ (e : eqb r y ≡ false). let o : one (eqb r y) ≡ 0 = ap one e in ap (count r) (leaving_later r y l e) ∙ omega (arith, o, leaving_none r l))
    (test (eqb r y))

pub leaving_absent : (r : ℕ) (l : List ℕ) → count r l ≡ 0 → leaving r l ≡ l
leaving_absent r [] h = unfold leaving in refl
leaving_absent r (x ∷ l) h =
    ⊎_elim
    (λ (e : eqb r x ≡ true). let o : one (eqb r x) ≡ 1 = ap one e in absurd (omega (arith, o, h)))
    (λ (e : eqb r x ≡ false). leaving_later r x l e ∙ ap (λ (m : List ℕ). x ∷ m) (leaving_absent r l (omega arith)))
    (test (eqb r x))

-- without the first they are the rest
pub leaving_first : (x : ℕ) (l : List ℕ) → Drops x l → leaving (highest l) l ≡ drop 1 l
leaving_first x [] d = unfold leaving in refl
leaving_first x (y ∷ l) d =
    leaving_here y y l (eq-eqb y y refl) ∙ leaving_absent y l (drops_none y y l d.1 (omega arith))

pub leaving_passing : (n : ℕ) (p : ℕ → Bool) (r : ℕ) → leaving r (passing n p) ≡ passing n (λ i. both (not (eqb r i)) (p i))
leaving_passing zero p r = unfold passing leaving in refl
leaving_passing (suc n) p r =
    let q : ℕ → Bool = λ i. both (not (eqb r i)) (p i) in
    let ih = leaving_passing n p r in
    ⊎_elim
    (λ (t : p n ≡ true).
    ⊎_elim
    (λ (e : eqb r n ≡ true).
    ap (leaving r) (passing_at n p t) ∙ leaving_here r n (passing n p) e ∙ ih ∙ sym (passing_not n q (ap (λ (b : Bool). both (not b) (p n)) e)))
    (λ (e : eqb r n ≡ false).
    ap (leaving r) (passing_at n p t) ∙ leaving_later r n (passing n p) e ∙ ap (λ (m : List ℕ). n ∷ m) ih
    ∙ sym (passing_at n q (ap₂ (λ (b d : Bool). both (not b) d) e t)))
    (test (eqb r n)))
    (λ (t : p n ≡ false).
    ap (leaving r) (passing_not n p t) ∙ ih ∙ sym (passing_not n q (ap (both (not (eqb r n))) t ∙ both-none (not (eqb r n)))))
    (test (p n))
  where
    both-none : (b : Bool) → both b false ≡ false
    both-none true = refl
    both-none false = refl

-- ---- two lists that drop and have the same numbers are the same
-- the first of the one is not above the first of the other
first_not_above : (x a b : ℕ) (l m : List ℕ) → Drops x (b ∷ m) → SameNumbers (a ∷ l) (b ∷ m) → a ≤ b
first_not_above x a b l m d s = elim (dec_lt b a) [
  | yes h ↦ absurd (omega (arith, s a, count_self a l, drops_none (suc b) a (b ∷ m) (omega arith, d.1) h))
  | no h ↦ omega arith
]

pub drops_same : (x : ℕ) (l m : List ℕ) → Drops x l → Drops x m → SameNumbers l m → l ≡ m
drops_same x [] [] d f s = refl
drops_same x [] (b ∷ m) d f s = absurd (omega (arith, s b, count_self b m))
drops_same x (a ∷ l) [] d f s = absurd (omega (arith, s a, count_self a l))
drops_same x (a ∷ l) (b ∷ m) d f s =
    let e : a ≡ b = omega (arith, first_not_above x a b l m f s, first_not_above x b a m l d (λ r. sym (s r))) in
    let rest : SameNumbers l m = λ r. (let o : one (eqb r a) ≡ one (eqb r b) = ap (λ (v : ℕ). one (eqb r v)) e in omega (arith, o, s r)) in
    ap₂ ◌∷◌ e (drops_same a l m d.1 (subst (λ (v : ℕ). Drops v m) (sym e) f.1) rest)
