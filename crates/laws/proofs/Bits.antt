-- Laws of masks: a bit is 0 or 1, ones are counted bit by bit, and none stand above what a mask is below. For any number of bits.
-- Assumes nothing.
use Prim.Native.Nat.{ℕ, zero, suc, ◌+◌, ◌-◌, ◌/◌, ◌%◌, ◌^◌, ◌≤◌, ◌<◌, zero-le}
use mathlib.Core.Path.{◌≡◌, refl, ap, ◌∙◌}
use native.Mathlib.Nat.{two-pow-succ, zero-add, suc-add}
use native.Mathlib.Omega.{arith}
use Rattle.laws.specs.Bits.{bit_at, ones}

pub bit_le : (m i : ℕ) → bit_at m i ≤ 1
bit_le m zero = omega arith
bit_le m (suc i) = bit_le (m / 2) i

pub bit_zero : (i : ℕ) → bit_at 0 i ≡ 0
bit_zero zero = refl
bit_zero (suc i) = bit_zero i

-- a mask with a one at place i is at least that one
pub bit_room : (m i : ℕ) → bit_at m i ≡ 1 → 2 ^ i ≤ m
bit_room m zero e = omega arith
bit_room m (suc i) e = omega (arith, bit_room (m / 2) i e, two-pow-succ i)

pub half_below : (m n : ℕ) → m < 2 ^ suc n → m / 2 < 2 ^ n
half_below m n l = omega (arith, two-pow-succ n)

pub ones_zero : (n : ℕ) → ones n 0 ≡ 0
unfolding ones
ones_zero zero = refl
ones_zero (suc n) = zero-add (ones n 0) ∙ ones_zero n

-- a mask that n bits hold has no ones above them
pub ones_wide : (n k w : ℕ) → w < 2 ^ n → ones (n + k) w ≡ ones n w
unfolding ones
ones_wide zero k w l =
    let z : w ≡ 0 = omega arith in
    ap (ones (0 + k)) z ∙ ones_zero (0 + k)
ones_wide (suc n) k w l = rw (suc-add n k) (ap (λ j. w % 2 + j) (ones_wide n k (w / 2) (half_below w n l)))

-- a loop that counts the ones
pub ones_step : (k m : ℕ) → 0 < k → ones k m ≡ m % 2 + ones (k - 1) (m / 2)
unfolding ones
ones_step zero m p = absurd (omega arith)
ones_step (suc k) m p = ap (λ j. m % 2 + ones j (m / 2)) {x = k} {y = suc k - 1} (omega arith)

pub ones_none : (k m : ℕ) → k ≡ 0 → ones k m ≡ 0
unfolding ones
ones_none k m e = ap (λ j. ones j m) e

pub ones_le : (k m : ℕ) → ones k m ≤ k
unfolding ones
ones_le zero m = zero-le
ones_le (suc k) m = omega (arith, ones_le k (m / 2))
