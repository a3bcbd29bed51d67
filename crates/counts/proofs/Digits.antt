-- Laws of masks: the bits of what `&`, `|` and `^` make, of a power of two, and of a part of a mask. For any number of bits. Assumes nothing.
use mathlib.Core.Path.{◌≡◌, refl, sym, ap, ap₂, ◌∙◌, subst}
use Prim.Native.Nat.{ℕ, zero, suc, ◌+◌, ◌-◌, ◌/◌, ◌%◌, ◌^◌, ◌<◌, ◌≤◌, min, max}
use native.Mathlib.Nat.{two-pow-succ, suc-add}
use native.Mathlib.Numerals.{add-one}
use native.Mathlib.Omega.{arith}
use lib.Dec.{eqb}
use borrow.Author.Tests.{eqb-true, eq-eqb, ne_eqb}
use lib.Bits.{bit_and, bit_or, bit_xor, differ, and_step, or_step, xor_step}
use lib.Pow.{field, mod-mod-pow, shr-shr}
use Rattle.laws.specs.Tests.{one}
use Rattle.laws.specs.Bits.{bit_at}
use Rattle.laws.proofs.Compare.{same_test}
use Rattle.laws.proofs.Bits.{bit_le, bit_zero, half_below}

pub bit_and_law : (a b i : ℕ) → bit_at (bit_and a b) i ≡ min (bit_at a i) (bit_at b i)
bit_and_law a b zero = omega (arith, and_step a b)
bit_and_law a b (suc i) =
    let e : bit_and a b / 2 ≡ bit_and (a / 2) (b / 2) = omega (arith, and_step a b) in
    ap (λ m. bit_at m i) e ∙ bit_and_law (a / 2) (b / 2) i

pub bit_or_law : (a b i : ℕ) → bit_at (bit_or a b) i ≡ max (bit_at a i) (bit_at b i)
bit_or_law a b zero = omega (arith, or_step a b)
bit_or_law a b (suc i) =
    let e : bit_or a b / 2 ≡ bit_or (a / 2) (b / 2) = omega (arith, or_step a b) in
    ap (λ m. bit_at m i) e ∙ bit_or_law (a / 2) (b / 2) i

differ_small : (x y : ℕ) → x ≤ 1 → y ≤ 1 → differ x y ≤ 1
differ_small zero y h k = k
differ_small (suc zero) zero h k = omega arith
differ_small (suc zero) (suc zero) h k = omega arith
differ_small (suc zero) (suc (suc y)) h k = absurd (omega arith)
differ_small (suc (suc x)) y h k = absurd (omega arith)

pub bit_xor_law : (a b i : ℕ) → bit_at (bit_xor a b) i ≡ differ (bit_at a i) (bit_at b i)
bit_xor_law a b zero = let s = differ_small (a % 2) (b % 2) (omega arith) (omega arith) in omega (arith, xor_step a b, s)
bit_xor_law a b (suc i) =
    let s = differ_small (a % 2) (b % 2) (omega arith) (omega arith) in
    let e : bit_xor a b / 2 ≡ bit_xor (a / 2) (b / 2) = omega (arith, xor_step a b, s) in
    ap (λ m. bit_at m i) e ∙ bit_xor_law (a / 2) (b / 2) i

-- a bit is taken out where the other mask has one
take_out : (x y : ℕ) → x ≤ 1 → y ≤ 1 → differ x (min x y) ≡ x - y
take_out zero y h k = omega arith
take_out (suc zero) zero h k = refl
take_out (suc zero) (suc zero) h k = refl
take_out (suc zero) (suc (suc y)) h k = absurd (omega arith)
take_out (suc (suc x)) y h k = absurd (omega arith)

pub bit_less : (a b i : ℕ) → bit_at (bit_xor a (bit_and a b)) i ≡ bit_at a i - bit_at b i
bit_less a b i =
    bit_xor_law a (bit_and a b) i ∙ ap (differ (bit_at a i)) (bit_and_law a b i) ∙ take_out (bit_at a i) (bit_at b i) (bit_le a i) (bit_le b i)

eqb_suc : (i p : ℕ) → eqb (suc i) (suc p) ≡ eqb i p
eqb_suc i p =
    same_test (eqb (suc i) (suc p)) (eqb i p) (λ h. eq-eqb i p (omega (arith, eqb-true (suc i) (suc p) h))) (λ h. eq-eqb (suc i) (suc p) (ap suc (eqb-true i p h)))

pub bit_pow : (p i : ℕ) → bit_at (2 ^ p) i ≡ one (eqb i p)
bit_pow zero zero = refl
bit_pow zero (suc i) = bit_zero i ∙ sym (ap one (ne_eqb (suc i) 0 (λ e. omega arith)))
bit_pow (suc p) zero = let o : one (eqb 0 (suc p)) ≡ 0 = ap one (ne_eqb 0 (suc p) (λ e. omega arith)) in omega (arith, two-pow-succ p, o)
bit_pow (suc p) (suc i) =
    let e : 2 ^ suc p / 2 ≡ 2 ^ p = omega (arith, two-pow-succ p) in
    ap (λ m. bit_at m i) e ∙ bit_pow p i ∙ ap one (sym (eqb_suc i p))

-- a mask below 2 ^ i has no bit i, and one that has i bits above that bit and none higher has it
pub bit_high : (m i : ℕ) → m < 2 ^ i → bit_at m i ≡ 0
bit_high m zero h = omega arith
bit_high m (suc i) h = bit_high (m / 2) i (half_below m i h)

pub bit_top : (m j : ℕ) → 2 ^ j ≤ m → m < 2 ^ suc j → bit_at m j ≡ 1
bit_top m zero l h = omega arith
bit_top m (suc j) l h = bit_top (m / 2) j (omega (arith, two-pow-succ j)) (half_below m (suc j) h)

-- the low bits of a mask, and the bits from a place on
pub bit_mod : (k x i : ℕ) → i < k → bit_at (x % 2 ^ k) i ≡ bit_at x i
bit_mod zero x i h = absurd (omega arith)
bit_mod (suc k) x zero h = subst (λ (n : ℕ). x % 2 ^ n % 2 ≡ x % 2) (add-one k) (mod-mod-pow x k 1)
bit_mod (suc k) x (suc i) h =
    let e : x % 2 ^ suc k / 2 ≡ x / 2 % 2 ^ k = subst (λ (n : ℕ). x % 2 ^ n / 2 ≡ x / 2 % 2 ^ k) (add-one k) (field x k 1) in
    ap (λ m. bit_at m i) e ∙ bit_mod k (x / 2) i (omega arith)

pub bit_div : (k x i : ℕ) → bit_at (x / 2 ^ k) i ≡ bit_at x (k + i)
bit_div zero x i =
    let e : x / 1 ≡ x = omega arith in
    let f : i ≡ 0 + i = omega arith in
    ap₂ bit_at e f
bit_div (suc k) x i =
    let o : suc k ≡ 1 + k = omega arith in
    let e : x / 2 ^ suc k ≡ x / 2 / 2 ^ k = ap (λ (n : ℕ). x / 2 ^ n) o ∙ sym (shr-shr x 1 k) in
    ap (λ m. bit_at m i) e ∙ bit_div k (x / 2) i ∙ ap (bit_at x) (sym (suc-add k i))
