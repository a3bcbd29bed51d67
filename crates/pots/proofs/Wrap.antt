-- The wrap: odd units go clockwise over a table of n seats just as over any longer row of places in which nobody above seat n wins; so the code, which goes
-- around ten places, shares as the paper does around `seats`. For any two lengths.
-- Assumes nothing.
use Prim.Native.Nat.{ℕ, zero, suc, ◌+◌, ◌-◌, ◌/◌, ◌%◌, ◌^◌, ◌≤◌, ◌<◌, min}
use mathlib.Core.Path.{◌≡◌, refl, sym, ap, ap₂, ◌∙◌}
use mathlib.Core.List.{List, [], ◌∷◌, ◌++◌, append_assoc}
use native.Mathlib.Nat.{zero-add, suc-add, sub-zero}
use native.Mathlib.Omega.{arith}
use lib.Dec.{leb, eqb}
use lib.ListN.{length, take, drop, replicate, length-append, length-drop, length-replicate}
use lib.Seq.{take-append-le, drop-append-le, take_at, drop_at}
use Rattle.laws.specs.Tests.{pick}
use Rattle.laws.proofs.Bits.{half_below, ones_wide}
use Rattle.pots.specs.Heights.{has, chips_at, live_of}
use Rattle.pots.specs.Settle.{ones, turned, share_out, flags_of, shares_of}
use Rattle.pots.proofs.Chips.{has_none}
use Rattle.pots.proofs.Masks.{live_length}
use Rattle.pots.proofs.Hands.{share_length}

-- ---- flags: none above n
pub live_none : (ts : List ℕ) → live_of ts 0 ≡ replicate (length ts) 0
unfolding live_of
live_none [] = refl
live_none (t ∷ ts) = ap (λ l. 0 ∷ l) (live_none ts)

flags_wide : (n k w : ℕ) → w < 2 ^ n → flags_of (n + k) w ≡ flags_of n w ++ replicate k 0
unfolding live_of
flags_wide zero k w l =
    let z : w ≡ 0 = omega arith in
    rw (zero-add k, z) (live_none (replicate k 1) ∙ ap (λ j. replicate j 0) (length-replicate k 1))
flags_wide (suc n) k w l = rw (suc-add n k) (ap (λ s. pick (eqb (w % 2) 1) 1 0 ∷ s) (flags_wide n k (w / 2) (half_below w n l)))

-- ---- shares along a list in parts
share_append : (base odd : ℕ) (xs ys : List ℕ) → share_out base odd (xs ++ ys) ≡ share_out base odd xs ++ share_out base (odd - chips_at xs 1) ys
unfolding share_out chips_at
share_append base odd [] ys = ap (λ k. share_out base k ys) (sym (sub-zero odd))
share_append base odd (x ∷ xs) ys =
    ap (λ s. pick (leb 1 x) (base + min 1 odd) 0 ∷ s)
    (share_append base (odd - has x 1) xs ys
    ∙ ap (λ k. share_out base (odd - has x 1) xs ++ share_out base k ys) {x = odd - has x 1 - chips_at xs 1} {y = odd - (has x 1 + chips_at xs 1)} (omega arith))

share_zeros : (base odd k : ℕ) → share_out base odd (replicate k 0) ≡ replicate k 0
unfolding share_out
share_zeros base odd zero = refl
share_zeros base odd (suc k) = ap (λ s. 0 ∷ s) (share_zeros base (odd - has 0 1) k)

chips_zeros : (k : ℕ) → chips_at (replicate k 0) 1 ≡ 0
unfolding chips_at
chips_zeros zero = refl
chips_zeros (suc k) = omega (arith, has_none 0 1 (omega arith), chips_zeros k)

-- zeros between two parts of the list get nothing and change nothing
share_between : (base odd k : ℕ) (xs ys : List ℕ)
    → share_out base odd ((xs ++ replicate k 0) ++ ys) ≡ (share_out base odd xs ++ replicate k 0) ++ share_out base (odd - chips_at xs 1) ys
share_between base odd k xs ys =
    let less : odd - chips_at xs 1 - chips_at (replicate k 0) 1 ≡ odd - chips_at xs 1 = omega (arith, chips_zeros k) in
    ap (share_out base odd) (append_assoc xs (replicate k 0) ys)
    ∙ share_append base odd xs (replicate k 0 ++ ys)
    ∙ ap (λ s. share_out base odd xs ++ s)
    (share_append base (odd - chips_at xs 1) (replicate k 0) ys
    ∙ ap₂ (λ s j. s ++ share_out base j ys) (share_zeros base (odd - chips_at xs 1) k) less)
    ∙ sym (append_assoc (share_out base odd xs) (replicate k 0) (share_out base (odd - chips_at xs 1) ys))

-- ---- turning a list in two parts
turned_parts : (k : ℕ) (xs ys : List ℕ) → length xs ≡ k → turned k (xs ++ ys) ≡ ys ++ xs
turned_parts k xs ys e = ap₂ ◌++◌ (drop_at xs ys k e) (take_at xs ys k e)

-- what n seats get, and nothing for the k places above
pub shares_wrap : (n k amount winners puck : ℕ) → winners < 2 ^ n → puck ≤ n
    → shares_of (n + k) amount winners puck ≡ shares_of n amount winners puck ++ replicate k 0
unfolding shares_of
shares_wrap n k amount w puck l p =
    let f = flags_of n w in
    let front = take puck (flags_of n w) in
    let behind = drop puck (flags_of n w) in
    let lf : length (flags_of n w) ≡ n = live_length (replicate n 1) w ∙ length-replicate n 1 in
    let c = ones_wide n k w l in
    let base = amount / ones n w in
    let odd = amount % ones n w in
    let s = share_out base odd behind in
    let t = share_out base (odd - chips_at behind 1) front in
    let lb : length behind ≡ n - puck = length-drop puck f ∙ ap (λ j. j - puck) lf in
    let ls : length s ≡ n - puck = share_length base odd behind ∙ lb in
    let wide : turned puck (flags_of (n + k) w) ≡ (behind ++ replicate k 0) ++ front =
    ap (turned puck) (flags_wide n k w l)
    ∙ ap₂ ◌++◌ (drop-append-le puck f (replicate k 0) (omega (arith, lf))) (take-append-le puck f (replicate k 0) (omega (arith, lf))) in
    let lz : length (s ++ replicate k 0) ≡ n + k - puck = length-append s (replicate k 0) ∙ ap₂ ◌+◌ ls (length-replicate k 0) ∙ (omega arith) in
    ap₂ (λ (j : ℕ) (ws : List ℕ). turned (n + k - puck) (share_out (amount / j) (amount % j) ws)) c wide
    ∙ ap (turned (n + k - puck)) (share_between base odd k behind front)
    ∙ turned_parts (n + k - puck) (s ++ replicate k 0) t lz
    ∙ sym (append_assoc t s (replicate k 0))
    ∙ ap (λ x. x ++ replicate k 0) (sym (ap (turned (n - puck)) (share_append base odd behind front) ∙ turned_parts (n - puck) s t ls))
