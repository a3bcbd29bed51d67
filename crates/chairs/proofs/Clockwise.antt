-- The first seat clockwise, counts of seats, and another chair at a seat: for any test of a chair, over any number of chairs. Assumes nothing.
use Prim.Native.Nat.{ℕ, zero, suc, ◌+◌, ◌-◌, ◌≤◌, ◌<◌}
use mathlib.Core.Bool.{Bool, true, false, true≢false}
use mathlib.Core.Path.{◌≡◌, refl, sym, ap, ◌∙◌}
use mathlib.Core.List.{List, [], ◌∷◌}
use mathlib.Core.Logic.{⊎_elim}
use native.Mathlib.Omega.{arith}
use native.Mathlib.Numerals.{add-one}
use lib.Dec.{eqb}
use lib.ListN.{length, get_or, drop, length-append, get_or-append}
use lib.Seq.{drop-cons, get_or-append-add}
use borrow.Author.Tests.{eqb-true, eqb-false}
use Rattle.laws.specs.Tests.{pick, one}
use Rattle.laws.proofs.Tests.{test}
use Rattle.pots.proofs.Contest.{le_or_lt}
use Rattle.chairs.specs.Chairs.{chair_at, put_at, no_chair, count_of, first_of, seats_from, clockwise}
use Rattle.chairs.specs.declared.Chair.{Chair}
use Rattle.chairs.proofs.Laws.{first_none, first_some}

-- ---- another chair at a seat
pub put_other : (cs : List Chair) (x y : ℕ) (d : Chair) → (x ≡ y → ⊥) → chair_at (put_at cs x d) y ≡ chair_at cs y
put_other cs zero y d h = refl
put_other [] (suc k) y d h = refl
put_other (c ∷ cs) (suc zero) zero d h = refl
put_other (c ∷ cs) (suc zero) (suc zero) d h = absurd (h refl)
put_other (c ∷ cs) (suc zero) (suc (suc j)) d h = refl
put_other (c ∷ cs) (suc (suc k)) zero d h = refl
put_other (c ∷ cs) (suc (suc k)) (suc zero) d h = refl
put_other (c ∷ cs) (suc (suc k)) (suc (suc j)) d h = put_other cs (suc k) (suc j) d (λ e. h (ap suc e))

-- what is read of any seat's chair is the same after a chair that has it the same
pub put_reads : {B : Type 0} (f : Chair → B) (cs : List Chair) (x y : ℕ) (d : Chair) → f d ≡ f (chair_at cs x) → f (chair_at (put_at cs x d) y) ≡ f (chair_at cs y)
put_reads f cs zero y d e = refl
put_reads f [] (suc k) y d e = refl
put_reads f (c ∷ cs) (suc zero) zero d e = refl
put_reads f (c ∷ cs) (suc zero) (suc zero) d e = e
put_reads f (c ∷ cs) (suc zero) (suc (suc j)) d e = refl
put_reads f (c ∷ cs) (suc (suc k)) zero d e = refl
put_reads f (c ∷ cs) (suc (suc k)) (suc zero) d e = refl
put_reads f (c ∷ cs) (suc (suc k)) (suc (suc j)) d e = put_reads f cs (suc k) (suc j) d e

-- ---- counts
module _ (p : Chair → Bool) where
  pub count_put : (cs : List Chair) (x : ℕ) (d : Chair) → p d ≡ p (chair_at cs x) → count_of p (put_at cs x d) ≡ count_of p cs
  count_put cs zero d e = refl
  count_put [] (suc k) d e = refl
  count_put (c ∷ cs) (suc zero) d e = ap (λ b. one b + count_of p cs) e
  count_put (c ∷ cs) (suc (suc k)) d e = ap (λ n. one (p c) + n) (count_put cs (suc k) d e)

  -- a chair that is not counted adds none
  pub count_less : (cs : List Chair) (x : ℕ) (d : Chair) → p d ≡ false → count_of p (put_at cs x d) ≤ count_of p cs
  count_less cs zero d e = omega arith
  count_less [] (suc k) d e = omega arith
  count_less (c ∷ cs) (suc zero) d e = omega (arith, ap one e)
  count_less (c ∷ cs) (suc (suc k)) d e = omega (arith, count_less cs (suc k) d e)

  pub count_none : (cs : List Chair) → ((k : ℕ) → p (chair_at cs (suc k)) ≡ false) → count_of p cs ≡ 0
  count_none [] h = refl
  count_none (c ∷ cs) h = omega (arith, ap one (h 0), count_none cs (λ k. h (suc k)))

  module _ (none : p no_chair ≡ false) where
    pub count-some : (cs : List Chair) (x : ℕ) → p (chair_at cs x) ≡ true → 1 ≤ count_of p cs
    count-some cs zero e = absurd (true≢false (sym e ∙ none))
    count-some [] (suc k) e = absurd (true≢false (sym e ∙ none))
    count-some (c ∷ cs) (suc zero) e = omega (arith, ap one e)
    count-some (c ∷ cs) (suc (suc k)) e = omega (arith, count-some cs (suc k) e)

    -- where one is counted at most, two that are counted are the same seat
    pub count_two : (cs : List Chair) (x y : ℕ) → p (chair_at cs x) ≡ true → p (chair_at cs y) ≡ true → count_of p cs ≤ 1 → x ≡ y
    count_two cs zero y e f o = absurd (true≢false (sym e ∙ none))
    count_two [] (suc k) y e f o = absurd (true≢false (sym e ∙ none))
    count_two (c ∷ cs) (suc k) zero e f o = absurd (true≢false (sym f ∙ none))
    count_two (c ∷ cs) (suc zero) (suc zero) e f o = refl
    count_two (c ∷ cs) (suc zero) (suc (suc j)) e f o = absurd (omega (arith, ap one e, count-some cs (suc j) f))
    count_two (c ∷ cs) (suc (suc k)) (suc zero) e f o = absurd (omega (arith, ap one f, count-some cs (suc k) e))
    count_two (c ∷ cs) (suc (suc k)) (suc (suc j)) e f o = ap suc (count_two cs (suc k) (suc j) e f (omega arith))

  -- where no seat but x is counted, one is at most
  pub count_one : (cs : List Chair) (x : ℕ) → ((y : ℕ) → (y ≡ x → ⊥) → p (chair_at cs y) ≡ false) → count_of p cs ≤ 1
  count_one [] x h = omega arith
  count_one (c ∷ cs) zero h = omega (arith, count_none (c ∷ cs) (λ k. h (suc k) (λ e. omega arith)))
  count_one (c ∷ cs) (suc zero) h =
      let z = count_none cs (λ k. h (suc (suc k)) (λ e. omega arith)) in
      ⊎_elim (λ e. omega (arith, ap one e)) (λ e. omega (arith, ap one e)) (test (p c))
  count_one (c ∷ cs) (suc (suc j)) h = omega (arith, ap one (h 1 (λ e. omega arith)), count_one cs (suc j) (inner cs j h))
    where
      inner : (cs : List Chair) (j : ℕ) → ((y : ℕ) → (y ≡ suc (suc j) → ⊥) → p (chair_at (c ∷ cs) y) ≡ false) → (y : ℕ) → (y ≡ suc j → ⊥) → p (chair_at cs y) ≡ false
      inner cs j h zero n = h 0 (λ e. omega arith)
      inner cs j h (suc k) n = h (suc (suc k)) (λ e. n (omega arith))

-- ---- the seats clockwise, one by one
seats_length : (a m : ℕ) → length (seats_from a m) ≡ m
seats_length a zero = refl
seats_length a (suc m) = ap suc (seats_length (suc a) m)

seats_at : (a m k : ℕ) → k < m → get_or (seats_from a m) k 0 ≡ suc (a + k)
seats_at a zero k l = absurd (omega arith)
seats_at a (suc m) zero l = omega arith
seats_at a (suc m) (suc k) l = omega (arith, seats_at (suc a) m k (omega arith))

pub clock_length : (n s : ℕ) → s ≤ n → length (clockwise n s) ≡ n
clock_length n s l = omega (arith, length-append (seats_from s (n - s)) (seats_from 0 s), seats_length s (n - s), seats_length 0 s)

-- the k-th of them, from 0: before the wrap, and behind it
pub clock_before : (n s k : ℕ) → s + k < n → get_or (clockwise n s) k 0 ≡ s + k + 1
clock_before n s k m =
    get_or-append (seats_from s (n - s)) (seats_from 0 s) 0 k (omega (arith, seats_length s (n - s))) ∙ omega (arith, seats_at s (n - s) k (omega arith))

pub clock_wrapped : (n s k : ℕ) → s ≤ n → k < n → n ≤ s + k → get_or (clockwise n s) k 0 ≡ s + k - n + 1
clock_wrapped n s k l m h =
    let j : k ≡ length (seats_from s (n - s)) + (s + k - n) = omega (arith, seats_length s (n - s)) in
    ap (λ i. get_or (clockwise n s) i 0) j
    ∙ get_or-append-add (seats_from s (n - s)) (seats_from 0 s) (s + k - n) 0
    ∙ omega (arith, seats_at 0 s (s + k - n) (omega arith))

-- the first from the k-th on, which has place i: that one, where it is as asked, else the first behind it
pub first_turn : (p : Chair → Bool) (cs : List Chair) (n s k i : ℕ) (b : Bool) → s ≤ n → k < n → i + 1 ≡ get_or (clockwise n s) k 0 → p (get_or cs i no_chair) ≡ b
    → first_of p cs (drop k (clockwise n s)) ≡ pick b (i + 1) (first_of p cs (drop (k + 1) (clockwise n s)))
first_turn p cs n s k i b l m at e =
    let x : get_or (clockwise n s) k 0 ≡ suc i = sym at ∙ add-one i in
    rw (add-one k, add-one i) (ap (first_of p cs) (drop-cons (clockwise n s) k 0 (omega (arith, clock_length n s l)) ∙ ap (λ y. y ∷ drop (suc k) (clockwise n s)) x)
    ∙ ap (λ d. pick d (suc i) (first_of p cs (drop (suc k) (clockwise n s)))) e)

-- ---- the first of some seats
module _ (p : Chair → Bool) (cs : List Chair) where
  -- it is as asked, where there is one
  pub first_holds : (ss : List ℕ) → (first_of p cs ss ≡ 0 → ⊥) → p (chair_at cs (first_of p cs ss)) ≡ true
  first_holds [] h = absurd (h refl)
  first_holds (s ∷ ss) h = go (p (chair_at cs s)) refl h (first_holds ss)
    where
      go : (b : Bool) → p (chair_at cs s) ≡ b → (pick b s (first_of p cs ss) ≡ 0 → ⊥) → ((first_of p cs ss ≡ 0 → ⊥) → p (chair_at cs (first_of p cs ss)) ≡ true)
          → p (chair_at cs (pick b s (first_of p cs ss))) ≡ true
      go true e q r = e
      go false e q r = r q

  -- of the m seats after k: no later than one that is as asked
  pub first_before : (k m x : ℕ) → k < x → x ≤ k + m → p (chair_at cs x) ≡ true → (k < first_of p cs (seats_from k m)) × (first_of p cs (seats_from k m) ≤ x)
  first_before k zero x l u e = absurd (omega arith)
  first_before k (suc m) x l u e = go (p (chair_at cs (suc k))) refl (λ n v. first_before (suc k) m x n v e)
    where
      go : (b : Bool) → p (chair_at cs (suc k)) ≡ b
          → (suc k < x → x ≤ suc k + m → (suc k < first_of p cs (seats_from (suc k) m)) × (first_of p cs (seats_from (suc k) m) ≤ x))
          → (k < pick b (suc k) (first_of p cs (seats_from (suc k) m))) × (pick b (suc k) (first_of p cs (seats_from (suc k) m)) ≤ x)
      go true f r = (omega arith, omega arith)
      go false f r =
          let n : suc k < x = ⊎_elim (λ (a : x ≤ suc k). let s : x ≡ suc k = omega arith in absurd (true≢false (sym e ∙ ap (λ z. p (chair_at cs z)) s ∙ f))) (λ (a : suc k < x). a) (le_or_lt x (suc k)) in
          let q = r n (omega arith) in
          (omega (arith, q.0), q.1)

  -- of the m seats after k: it comes after k
  pub first_late : (k m : ℕ) → (first_of p cs (seats_from k m) ≡ 0 → ⊥) → k < first_of p cs (seats_from k m)
  first_late k zero h = absurd (h refl)
  first_late k (suc m) h = go (p (chair_at cs (suc k))) h (first_late (suc k) m)
    where
      go : (b : Bool) → (pick b (suc k) (first_of p cs (seats_from (suc k) m)) ≡ 0 → ⊥) → ((first_of p cs (seats_from (suc k) m) ≡ 0 → ⊥) → suc k < first_of p cs (seats_from (suc k) m))
          → k < pick b (suc k) (first_of p cs (seats_from (suc k) m))
      go true q r = omega arith
      go false q r = omega (arith, r q)

  -- clockwise from any seat: there is a first where one of the seats 1 to n is as asked
  pub clock_some : (n s x : ℕ) → 0 < x → x ≤ n → p (chair_at cs x) ≡ true → first_of p cs (clockwise n s) ≡ 0 → ⊥
  clock_some n s x l u e z = go (eqb (first_of p cs (seats_from s (n - s))) 0) refl
    where
      go : (b : Bool) → eqb (first_of p cs (seats_from s (n - s))) 0 ≡ b → ⊥
      go false q =
          let h = eqb-false (first_of p cs (seats_from s (n - s))) 0 q in
          h (sym (first_some p cs s (n - s) (seats_from 0 s) h) ∙ z)
      go true q =
          let h = eqb-true (first_of p cs (seats_from s (n - s))) 0 q in
          let w : first_of p cs (seats_from 0 s) ≡ 0 = sym (first_none p cs s (n - s) (seats_from 0 s) h) ∙ z in
          ⊎_elim
          (λ (a : x ≤ s). omega (arith, (first_before 0 s x l (omega arith) e).0))
          (λ (a : s < x). omega (arith, (first_before s (n - s) x a (omega arith) e).0))
          (le_or_lt x s)

  -- seat s itself comes last: it is the first only where no other of the seats 1 to n is as asked
  pub clock_last : (n s x : ℕ) → first_of p cs (clockwise n s) ≡ s → 0 < x → x ≤ n → (x ≡ s → ⊥) → p (chair_at cs x) ≡ false
  clock_last n s x w l u d = ⊎_elim (λ e. absurd (go e (eqb (first_of p cs (seats_from s (n - s))) 0) refl)) (λ e. e) (test (p (chair_at cs x)))
    where
      after : (first_of p cs (seats_from s (n - s)) ≡ 0 → ⊥) → first_of p cs (seats_from s (n - s)) ≡ s
      after h = sym (first_some p cs s (n - s) (seats_from 0 s) h) ∙ w

      go : p (chair_at cs x) ≡ true → (b : Bool) → eqb (first_of p cs (seats_from s (n - s))) 0 ≡ b → ⊥
      go e false q =
          let h = eqb-false (first_of p cs (seats_from s (n - s))) 0 q in
          omega (arith, after h, first_late s (n - s) h)
      go e true q =
          let h = eqb-true (first_of p cs (seats_from s (n - s))) 0 q in
          let v : first_of p cs (seats_from 0 s) ≡ s = sym (first_none p cs s (n - s) (seats_from 0 s) h) ∙ w in
          ⊎_elim
          (λ (a : x ≤ s). let r = first_before 0 s x l (omega arith) e in d (omega (arith, r.1)))
          (λ (a : s < x). omega (arith, (first_before s (n - s) x a (omega arith) e).0))
          (le_or_lt x s)
