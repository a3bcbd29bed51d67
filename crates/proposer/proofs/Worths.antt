-- What a sitting takes is worth what it is paid: no step loses or makes chips. For any rows and any order of them. Assumes nothing.
use Prim.Native.Nat.{ℕ, zero, suc, ◌+◌, ◌-◌, ◌*◌, ◌/◌, ◌≤◌, ◌<◌, min}
use mathlib.Core.Path.{◌≡◌, refl, sym, ap, ◌∙◌}
use mathlib.Core.Logic.{◌⊎◌, inl, inr, ⊎_elim}
use mathlib.Core.List.{List}
use native.Mathlib.Nat.{add-mul, le_refl, le_trans, eq-or-lt_of_le, le_of_suc-le-suc}
use native.Mathlib.Omega.{arith}
use lib.ListN.{length, get_or, set, get_or-eq_default}
use lib.Seq.{get_or-set_same, get_or-set_other, set_out}
use Rattle.laws.proofs.Sums.{le_or_lt}
use Rattle.tray.specs.Counting.{sum_to}
use Rattle.tray.proofs.Sums.{sum_same}
use Rattle.proposer.specs.Proposer.{as_many, take_row, served_to, LeftAndOwed}
use Rattle.proposer.proofs.Steps.{many_fits, served_long}

-- two sums that differ at one place
pub sum_but : (n : ℕ) (f g : ℕ → ℕ) (i : ℕ) → i < n → ((j : ℕ) → (j ≡ i → ⊥) → f j ≡ g j) → sum_to n g + f i ≡ sum_to n f + g i
sum_but zero f g i l h = absurd (omega arith)
sum_but (suc n) f g i l h =
    ⊎_elim
    (λ (e : i ≡ n).
    let s : sum_to n f ≡ sum_to n g = sum_same n f g (λ j o. h j (λ q. absurd (omega (arith, o, q, e)))) in
    let a : f i ≡ f n = ap f e in
    let b : g i ≡ g n = ap g e in
    omega (arith, s, a, b))
    (λ (o : i < n).
    let s : sum_to n g + f i ≡ sum_to n f + g i = sum_but n f g i o h in
    let q : f n ≡ g n = h n (λ q. absurd (omega (arith, o, q))) in
    omega (arith, s, q))
    (eq-or-lt_of_le (le_of_suc-le-suc l))

-- what chips in these numbers are worth
abbrev pub value : List ℕ → List ℕ → ℕ
value ws l = sum_to (length ws) (λ j. get_or l j 0 * get_or ws j 0)

-- a change at one place
value_set : (ws l : List ℕ) (i x : ℕ) → i < length ws → i < length l → value ws (set l i x) + get_or l i 0 * get_or ws i 0 ≡ value ws l + x * get_or ws i 0
value_set ws l i x a b =
    sum_but (length ws) (λ j. get_or l j 0 * get_or ws j 0) (λ j. get_or (set l i x) j 0 * get_or ws j 0) i a
    (λ j n. ap (λ k. k * get_or ws j 0) (sym (get_or-set_other l i j x 0 n)))
    ∙ ap (λ k. value ws l + k * get_or ws i 0) (get_or-set_same l i x 0 b)

module _ (ws : List ℕ) where
  -- one row: what leaves it is what is no longer owed
  pub row_worth : (i : ℕ) (h : LeftAndOwed) → length h.left ≡ length ws
      → value ws (take_row (get_or ws i 0) i h).left + h.owed ≡ value ws h.left + (take_row (get_or ws i 0) i h).owed
  unfolding take_row
  row_worth i h e =
      let l = h.left in
      let w = get_or ws i 0 in
      let k : ℕ = as_many (get_or l i 0) h.owed w in
      let m : k * w ≤ h.owed = many_fits (get_or l i 0) h.owed w in
      ⊎_elim
      (λ (o : length l ≤ i).
      let z : get_or l i 0 ≡ 0 = get_or-eq_default l 0 o in
      let s : value ws (set l i (get_or l i 0 - k)) ≡ value ws l = ap (value ws) (set_out l i (get_or l i 0 - k) o) in
      let v : get_or ws i 0 ≡ 0 = get_or-eq_default ws 0 (omega (arith, o, e)) in
      let u : k * w ≡ 0 = ap (λ t. k * t) v ∙ times_none k in
      omega (arith, s, u))
      (λ (o : i < length l).
      let s : value ws (set l i (get_or l i 0 - k)) + get_or l i 0 * w ≡ value ws l + (get_or l i 0 - k) * w = value_set ws l i (get_or l i 0 - k) (omega (arith, o, e)) o in
      let a : get_or l i 0 - k + k ≡ get_or l i 0 = back (get_or l i 0) (h.owed / w) in
      let t : get_or l i 0 * w ≡ (get_or l i 0 - k) * w + k * w = ap (λ t. t * w) (sym a) ∙ add-mul (get_or l i 0 - k) k w in
      omega (arith, s, t, m))
      (le_or_lt (length l) i)
    where
      times_none : (k : ℕ) → k * 0 ≡ 0
      times_none k = omega arith

      back : (n q : ℕ) → n - min n q + min n q ≡ n
      back n q = omega arith

  -- all rows of an order
  pub served_worth : (k : ℕ) (order : List ℕ) (h : LeftAndOwed) → length h.left ≡ length ws
      → value ws (served_to k ws order h).left + h.owed ≡ value ws h.left + (served_to k ws order h).owed
  served_worth zero order h e = refl
  served_worth (suc k) order h e =
      let i : ℕ = get_or order k 0 in
      let g : LeftAndOwed = served_to k ws order h in
      let a : value ws g.left + h.owed ≡ value ws h.left + g.owed = served_worth k order h e in
      let b : value ws (take_row (get_or ws i 0) i g).left + g.owed ≡ value ws g.left + (take_row (get_or ws i 0) i g).owed = row_worth i g (served_long k ws order h ∙ e) in
      omega (arith, a, b)

same_or : (a b : ℕ) → (a ≡ b) ⊎ (a ≡ b → ⊥)
same_or a b =
    ⊎_elim (λ (p : a ≤ b). ⊎_elim (λ (q : b ≤ a). inl (omega (arith, p, q))) (λ (q : a < b). inr (λ e. absurd (omega (arith, q, e)))) (le_or_lt b a))
    (λ (p : b < a). inr (λ e. absurd (omega (arith, p, e)))) (le_or_lt a b)

-- no row gains
pub row_less : (w i : ℕ) (h : LeftAndOwed) (j : ℕ) → get_or (take_row w i h).left j 0 ≤ get_or h.left j 0
unfolding take_row
row_less w i h j =
    let l = h.left in
    let x : ℕ = get_or l i 0 - as_many (get_or l i 0) h.owed w in
    ⊎_elim
    (λ (o : length l ≤ i).
    let s : get_or (set l i x) j 0 ≡ get_or l j 0 = ap (λ t. get_or t j 0) (set_out l i x o) in
    omega (arith, s))
    (λ (o : i < length l).
    ⊎_elim
    (λ (e : j ≡ i).
    let s : get_or (set l i x) j 0 ≡ x = ap (λ t. get_or (set l i x) t 0) e ∙ get_or-set_same l i x 0 o in
    let q : get_or l j 0 ≡ get_or l i 0 = ap (λ t. get_or l t 0) e in
    omega (arith, s, q))
    (λ (n : j ≡ i → ⊥). let s : get_or (set l i x) j 0 ≡ get_or l j 0 = get_or-set_other l i j x 0 n in omega (arith, s))
    (same_or j i))
    (le_or_lt (length l) i)

pub served_less : (k : ℕ) (ws order : List ℕ) (h : LeftAndOwed) (j : ℕ) → get_or (served_to k ws order h).left j 0 ≤ get_or h.left j 0
served_less zero ws order h j = le_refl _
served_less (suc k) ws order h j = le_trans (row_less (get_or ws (get_or order k 0) 0) (get_or order k 0) (served_to k ws order h) j) (served_less k ws order h j)

-- what was taken and what is left are worth what was there
pub value_split : (n : ℕ) (a b w : ℕ → ℕ) → ((i : ℕ) → a i ≤ b i) → sum_to n (λ i. (b i - a i) * w i) + sum_to n (λ i. a i * w i) ≡ sum_to n (λ i. b i * w i)
value_split zero a b w h = refl
value_split (suc n) a b w h =
    let s : sum_to n (λ i. (b i - a i) * w i) + sum_to n (λ i. a i * w i) ≡ sum_to n (λ i. b i * w i) = value_split n a b w h in
    let q : b n - a n + a n ≡ b n = omega (arith, h n) in
    let t : b n * w n ≡ (b n - a n) * w n + a n * w n = ap (λ k. k * w n) (sym q) ∙ add-mul (b n - a n) (a n) (w n) in
    omega (arith, s, t)
