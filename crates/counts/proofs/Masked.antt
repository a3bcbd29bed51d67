-- Sets of ranks as masks: the highest bit is the highest rank, a bit taken out is a rank left out, and five bits in a row are five ranks in a row. For any mask
-- of ranks up to the ace. Assumes nothing.
use mathlib.Core.Path.{◌≡◌, refl, sym, ap, ap₂, ◌∙◌}
use mathlib.Core.Bool.{Bool, true, false, not, true≢false}
use mathlib.Core.Logic.{⊎_elim}
use Prim.Native.Nat.{ℕ, zero, suc, ◌+◌, ◌-◌, ◌*◌, ◌/◌, ◌%◌, ◌^◌, ◌<◌, ◌≤◌, min, max}
use native.Mathlib.Nat.{lt_of_lt_of_le, lt_of_le_of_lt, one-mul}
use native.Mathlib.Omega.{arith}
use native.Mathlib.Decide.{dec_lt}
use lib.Dec.{eqb, ltb}
use lib.Bits.{bit_and, bit_or, bit_xor, and_le_l, or_lt, xor_lt}
use lib.Count.{count_leading_zeros, leading_top}
use lib.Pow.{pow_mono, shl_exact}
use borrow.Author.Tests.{eqb-true, eq-eqb, ne_eqb}
use Rattle.laws.specs.Tests.{one, both, either}
use Rattle.laws.specs.Bits.{bit_at}
use Rattle.laws.specs.Often.{count}
use Rattle.laws.proofs.Tests.{test}
use Rattle.laws.proofs.Often.{one_small}
use Rattle.laws.proofs.Bits.{bit_le, bit_zero}
use Rattle.counts.specs.HandOrder.{highest, leaving, is_there, is_row, row_foot}
use Rattle.counts.specs.Kept.{ranks_in, Short}
use Rattle.counts.proofs.Digits.{bit_and_law, bit_or_law, bit_less, bit_pow, bit_high, bit_top}
use Rattle.laws.proofs.Choosing.{Drops}
use Rattle.counts.proofs.Passing.{drops_none, passing_drops, passing_count, passing_same, passing_none, highest_is, leaving_passing}

pub ranks_drop : (m : ℕ) → Drops 15 (ranks_in m)
unfolding ranks_in
ranks_drop m = passing_drops 15 (λ r. eqb (bit_at m r) 1)

pub one_bit : (b : ℕ) → b ≤ 1 → one (eqb b 1) ≡ b
one_bit zero h = refl
one_bit (suc zero) h = refl
one_bit (suc (suc b)) h = absurd (omega arith)

-- a mask of ranks up to the ace has no higher bits
high_none : (m r : ℕ) → Short m → 15 ≤ r → bit_at m r ≡ 0
high_none m r h k = bit_high m r (lt_of_lt_of_le h (pow_mono k))

pub ranks_count : (m r : ℕ) → Short m → count r (ranks_in m) ≡ bit_at m r
unfolding ranks_in
ranks_count m r h = elim (dec_lt r 15) [
  | yes a ↦ passing_count 15 (λ x. eqb (bit_at m x) 1) r a ∙ one_bit (bit_at m r) (bit_le m r)
  | no a ↦ drops_none 15 r (ranks_in m) (ranks_drop m) (omega arith) ∙ sym (high_none m r h (omega arith))
]

-- ---- the highest
pub top_none : (m : ℕ) → m ≡ 0 → 0 ≡ highest (ranks_in m)
unfolding ranks_in
top_none m e =
    sym (ap highest (passing_none 15 (λ r. eqb (bit_at m r) 1) (λ i h. ap (λ (b : ℕ). eqb b 1) (ap (λ (k : ℕ). bit_at k i) e ∙ bit_zero i))))

top_is : (m j : ℕ) → Short m → 2 ^ j ≤ m → m < 2 ^ suc j → (j ≡ highest (ranks_in m)) × (j < 15)
unfolding ranks_in
top_is m j h l u =
    let low : j < 15 = elim (dec_lt j 15) [
      | yes a ↦ a
      | no a ↦ (let p : 32768 ≤ 2 ^ j = pow_mono {i = 15} (omega arith) in absurd (omega arith))
    ] in (
      sym (highest_is 15 (λ r. eqb (bit_at m r) 1) j low (eq-eqb (bit_at m j) 1 (bit_top m j l u)) (λ i a b. ap (λ (k : ℕ). eqb k 1) (bit_high m i (lt_of_lt_of_le u (pow_mono a))))),
      low,
    )

pub leading_small : (m : ℕ) → (m ≡ 0 → ⊥) → Short m → count_leading_zeros 64 m ≤ 63
leading_small m z h = let t = leading_top 64 m (omega arith) (omega arith) in omega (arith, t.1)

pub top_found : (m r : ℕ) → (m ≡ 0 → ⊥) → Short m → r ≡ 63 - count_leading_zeros 64 m → (r ≡ highest (ranks_in m)) × (r < 15)
top_found m r z h e =
    let t = leading_top 64 m (omega arith) (omega arith) in
    let p = top_is m t.0 h t.2 t.3 in
    let q : r ≡ t.0 = omega (arith, t.1, e) in
    (q ∙ p.0, omega (arith, q, p.1))

-- ---- one left out
out : (m p r i : ℕ) → p ≡ 2 ^ r → eqb (bit_at (bit_xor m (bit_and m p)) i) 1 ≡ both (not (eqb r i)) (eqb (bit_at m i) 1)
out m p r i e =
    let b : bit_at (bit_xor m (bit_and m p)) i ≡ bit_at m i - one (eqb i r) = bit_less m p i ∙ ap (λ (k : ℕ). bit_at m i - k) (ap (λ (k : ℕ). bit_at k i) e ∙ bit_pow r i) in
    ⊎_elim
    (λ (q : eqb r i ≡ true).
    let o : one (eqb i r) ≡ 1 = ap one (eq-eqb i r (sym (eqb-true r i q))) in
    let z : bit_at (bit_xor m (bit_and m p)) i ≡ 0 = omega (arith, b, o, bit_le m i) in
    ap (λ (k : ℕ). eqb k 1) z ∙ sym (ap (λ (c : Bool). both (not c) (eqb (bit_at m i) 1)) q))
    (λ (q : eqb r i ≡ false).
    let o : one (eqb i r) ≡ 0 = ap one (ne_eqb i r (λ s. true≢false (sym (eq-eqb r i (sym s)) ∙ q))) in
    let z : bit_at (bit_xor m (bit_and m p)) i ≡ bit_at m i = omega (arith, b, o) in
    ap (λ (k : ℕ). eqb k 1) z ∙ sym (ap (λ (c : Bool). both (not c) (eqb (bit_at m i) 1)) q))
    (test (eqb r i))

pub less_is : (m r p : ℕ) → Short m → r < 15 → p ≡ 1 * 2 ^ r % 2 ^ 64 → (ranks_in (bit_xor m (bit_and m p)) ≡ leaving r (ranks_in m)) × Short (bit_xor m (bit_and m p))
unfolding ranks_in
less_is m r p h k e =
    let q : p ≡ 2 ^ r = e ∙ shl_exact {a = 1} 1 r 64 (omega arith) (omega arith) ∙ one-mul (2 ^ r) in (
      passing_same 15 (λ i. eqb (bit_at (bit_xor m (bit_and m p)) i) 1) (λ i. both (not (eqb r i)) (eqb (bit_at m i) 1)) (λ i a. out m p r i q)
          ∙ sym (leaving_passing 15 (λ i. eqb (bit_at m i) 1) r),
      xor_lt 15 m (bit_and m p) h (lt_of_le_of_lt (and_le_l m p) h),
    )

-- ---- five in a row
one_both : (a b : Bool) → min (one a) (one b) ≡ one (both a b)
one_both true true = refl
one_both true false = refl
one_both false true = refl
one_both false false = refl

-- the ace once more, below the two
low_bit : (x r : ℕ) → x ≤ 1 → bit_at (x * 2) r ≡ one (both (eqb r 1) (ltb 0 x))
low_bit x zero h = omega arith
low_bit zero (suc zero) h = refl
low_bit (suc zero) (suc zero) h = refl
low_bit (suc (suc x)) (suc zero) h = absurd (omega arith)
low_bit x (suc (suc r)) h =
    let z : x * 2 / 2 / 2 ≡ 0 = omega arith in
    ap (λ (k : ℕ). bit_at k r) z ∙ bit_zero r ∙ sym (ap (λ (b : Bool). one (both b (ltb 0 x))) (ne_eqb (suc (suc r)) 1 (λ e. omega arith)))

one_either : (b : ℕ) (d : Bool) → b ≤ 1 → max b (one d) ≡ one (either (ltb 0 b) d)
one_either zero d h = omega arith
one_either (suc zero) d h = omega (arith, one_small d)
one_either (suc (suc b)) d h = absurd (omega arith)

pub test_bit : (b : Bool) (x : ℕ) → x ≡ one b → eqb x 1 ≡ b
test_bit true x e = eq-eqb x 1 e
test_bit false x e = ne_eqb x 1 (λ q. omega arith)

module _ (m : ℕ) (h : Short m) where
  abbrev there : ℕ
  there = bit_or m (m / 16384 * 2)

  there_bit : (r : ℕ) → bit_at there r ≡ one (is_there (ranks_in m) r)
  unfolding is_there
  there_bit r =
      let x : m / 16384 ≤ 1 = omega arith in
      let ace : m / 16384 ≡ bit_at m 14 = omega arith in
      bit_or_law m (m / 16384 * 2) r
      ∙ ap (max (bit_at m r)) (low_bit (m / 16384) r x)
      ∙ one_either (bit_at m r) (both (eqb r 1) (ltb 0 (m / 16384))) (bit_le m r)
      ∙ ap₂ (λ (a b : ℕ). one (either (ltb 0 a) (both (eqb r 1) (ltb 0 b)))) (sym (ranks_count m r h)) (ace ∙ sym (ranks_count m 14 h))

  abbrev row : ℕ
  row = bit_and there (bit_and (there / 2) (bit_and (there / 2 / 2) (bit_and (there / 2 / 2 / 2) (there / 2 / 2 / 2 / 2))))

  row_bit : (k : ℕ) → bit_at row k ≡ one (is_row (ranks_in m) k)
  unfolding is_row
  row_bit k =
      let t : (j : ℕ) (b : ℕ) → j ≡ b → bit_at there j ≡ one (is_there (ranks_in m) b) = λ j b e. there_bit j ∙ ap (λ (r : ℕ). one (is_there (ranks_in m) r)) e in
      let b0 = is_there (ranks_in m) k in
      let b1 = is_there (ranks_in m) (k + 1) in
      let b2 = is_there (ranks_in m) (k + 2) in
      let b3 = is_there (ranks_in m) (k + 3) in
      let b4 = is_there (ranks_in m) (k + 4) in
      let t1 = t (suc k) (k + 1) (omega arith) in
      let t2 = t (suc (suc k)) (k + 2) (omega arith) in
      let t3 = t (suc (suc (suc k))) (k + 3) (omega arith) in
      let t4 = t (suc (suc (suc (suc k)))) (k + 4) (omega arith) in
      bit_and_law there (bit_and (there / 2) (bit_and (there / 2 / 2) (bit_and (there / 2 / 2 / 2) (there / 2 / 2 / 2 / 2)))) k
      ∙ ap₂ min (there_bit k)
      (bit_and_law (there / 2) (bit_and (there / 2 / 2) (bit_and (there / 2 / 2 / 2) (there / 2 / 2 / 2 / 2))) k
      ∙ ap₂ min t1
      (bit_and_law (there / 2 / 2) (bit_and (there / 2 / 2 / 2) (there / 2 / 2 / 2 / 2)) k
      ∙ ap₂ min t2 (bit_and_law (there / 2 / 2 / 2) (there / 2 / 2 / 2 / 2) k ∙ ap₂ min t3 t4 ∙ one_both b3 b4)
      ∙ one_both b2 (both b3 b4))
      ∙ one_both b1 (both b2 (both b3 b4)))
      ∙ one_both b0 (both b1 (both b2 (both b3 b4)))

  pub row_short : Short row
  row_short =
      lt_of_le_of_lt (and_le_l there (bit_and (there / 2) (bit_and (there / 2 / 2) (bit_and (there / 2 / 2 / 2) (there / 2 / 2 / 2 / 2)))))
      (or_lt 15 m (m / 16384 * 2) h (omega arith))

  pub foot_is : highest (ranks_in row) ≡ row_foot (ranks_in m)
  unfolding ranks_in row_foot
  foot_is =
      ap highest (passing_same 15 (λ r. eqb (bit_at row r) 1) (is_row (ranks_in m)) (λ k lt. test_bit (is_row (ranks_in m) k) (bit_at row k) (row_bit k)))
