-- Numbers of digits to the base 256, the lowest digit first: two numbers, the one above the digits of the other; and the same digits from the highest.
-- For any number of digits. Assumes nothing.
use mathlib.Core.Path.{◌≡◌, refl, ap, ap₂, ◌∙◌}
use mathlib.Core.List.{List, [], ◌∷◌, ◌++◌}
use Prim.Native.Nat.{ℕ, zero, suc, ◌+◌, ◌*◌, ◌/◌, ◌%◌, ◌<◌}
use native.Mathlib.Nat.{mul_left_comm, zero-add, suc-add}
use native.Mathlib.Omega.{arith}
use lib.ListN.{length}
use Rattle.laws.specs.Often.{count, SameNumbers}
use Rattle.cards.specs.Packed.{digits}
use Rattle.cards.specs.Searching.{lows, units}

pub lows_length : (k n : ℕ) → length (lows k n) ≡ k
unfolding lows
lows_length zero n = refl
lows_length (suc k) n = ap suc (lows_length k (n / 256))

-- a number above the k digits of another
pub lows_above : (k j r n : ℕ) → n < units k → lows (k + j) (r * units k + n) ≡ lows k n ++ lows j r
unfolding lows units
lows_above zero j r n h = let e : r * 1 + n ≡ r = omega arith in rw (zero-add j, e)
lows_above (suc k) j r n h =
    let m : r * (256 * units k) ≡ 256 * (r * units k) = mul_left_comm r 256 (units k) in
    let a : (r * (256 * units k) + n) % 256 ≡ n % 256 = omega arith in
    let b : (r * (256 * units k) + n) / 256 ≡ r * units k + n / 256 = omega arith in
    rw (suc-add k j, a, b) (ap (λ (l : List ℕ). n % 256 ∷ l) (lows_above k j r (n / 256) (omega arith)))

-- one digit more
pub lows_one : (k c n : ℕ) → n < units k → c < 256 → lows (k + 1) (c * units k + n) ≡ lows k n ++ (c ∷ [])
unfolding lows
lows_one k c n h l = let e : c % 256 ≡ c = omega arith in lows_above k 1 c n h ∙ ap (λ (x : ℕ). lows k n ++ (x ∷ [])) e

pub count_append : (x : ℕ) (l m : List ℕ) → count x (l ++ m) ≡ count x l + count x m
count_append x [] m = omega arith
count_append x (y ∷ l) m = let ih = count_append x l m in omega (arith, ih)

-- the digits from the lowest are those from the highest
pub lows_digits : (k n : ℕ) → SameNumbers (digits k n) (lows k n)
unfolding digits lows
lows_digits zero n x = refl
lows_digits (suc k) n x = let ih = lows_digits k (n / 256) x in omega (arith, count_append x (digits k (n / 256)) (n % 256 ∷ []), ih)

-- the rest by as many digits has the same last digits
pub lows_rest : (k n u m : ℕ) → n ≡ m * units k + u → u < units k → lows k n ≡ lows k u
unfolding lows units
lows_rest zero n u m e h = refl
lows_rest (suc k) n u m e h =
    let w : m * (256 * units k) ≡ 256 * (m * units k) = mul_left_comm m 256 (units k) in
    let a : n % 256 ≡ u % 256 = omega arith in
    let b : n / 256 ≡ m * units k + u / 256 = omega arith in
    ap₂ (λ (x : ℕ) (l : List ℕ). x ∷ l) a (lows_rest k (n / 256) (u / 256) m b (omega arith))
