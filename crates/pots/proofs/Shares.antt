-- What one seat gets of a pot that winners share: nothing if it is no winner, and else the equal share or one unit more. For any number of seats.
-- Assumes nothing.
use Prim.Native.Nat.{ℕ, zero, suc, ◌+◌, ◌-◌, ◌/◌, ◌%◌, ◌≤◌, ◌<◌, min}
use mathlib.Core.Path.{◌≡◌, refl, ap, ◌∙◌}
use mathlib.Core.List.{List, [], ◌∷◌}
use mathlib.Core.Logic.{⊎_elim}
use native.Mathlib.Nat.{mod-eq_of_lt, mod-eq-sub-mod, mod-lt}
use native.Mathlib.Omega.{arith}
use lib.Dec.{leb}
use lib.ListN.{length, get_or, replicate, length-replicate}
use borrow.Author.Tests.{le-leb}
use Rattle.laws.specs.Tests.{pick}
use Rattle.laws.specs.Bits.{bit_at, ones}
use Rattle.laws.proofs.Sums.{le_or_lt}
use Rattle.pots.specs.Heights.{has}
use Rattle.pots.specs.Settle.{turned, share_out, flags_of, shares_of}
use Rattle.pots.proofs.Masks.{live_length, live_kept, live_zero}
use Rattle.pots.proofs.Settling.{turned_at, turned_length}
use Rattle.pots.proofs.Hands.{share_length}

-- ---- along a list of winners
share_zero : (base odd : ℕ) (ws : List ℕ) (j : ℕ) → get_or ws j 0 ≡ 0 → get_or (share_out base odd ws) j 0 ≡ 0
unfolding share_out
share_zero base odd [] j e = refl
share_zero base odd (w ∷ ws) zero e = ap (λ k. pick (leb 1 k) (base + min 1 odd) 0) e
share_zero base odd (w ∷ ws) (suc j) e = share_zero base (odd - has w 1) ws j e

share_winner : (base odd : ℕ) (ws : List ℕ) (j : ℕ) → 1 ≤ get_or ws j 0 → (base ≤ get_or (share_out base odd ws) j 0) × (get_or (share_out base odd ws) j 0 ≤ base + 1)
unfolding share_out
share_winner base odd [] j l = absurd (omega arith)
share_winner base odd (w ∷ ws) zero l =
    let e : pick (leb 1 w) (base + min 1 odd) 0 ≡ base + min 1 odd = ap (λ b. pick b (base + min 1 odd) 0) (le-leb 1 w l) in
    (omega (arith, e), omega (arith, e))
share_winner base odd (w ∷ ws) (suc j) l = share_winner base (odd - has w 1) ws j l

-- ---- around the table
-- the place that is j on from k, where j is i on from n - k, is i
around_back : (n k i : ℕ) → k ≤ n → i < n → (k + (n - k + i) % n) % n ≡ i
around_back n k i l m =
    ⊎_elim
    (λ (a : k ≤ i).
    let e : (n - k + i) % n ≡ i - k = mod-eq-sub-mod (omega arith) ∙ mod-eq_of_lt (omega arith) ∙ (omega arith) in
    ap (λ j. (k + j) % n) e ∙ mod-eq_of_lt (omega arith) ∙ (omega arith))
    (λ (a : i < k).
    let e : (n - k + i) % n ≡ n - k + i = mod-eq_of_lt (omega arith) in
    ap (λ j. (k + j) % n) e ∙ mod-eq-sub-mod (omega arith) ∙ mod-eq_of_lt (omega arith) ∙ (omega arith))
    (le_or_lt k i)

replicate_at : (n i : ℕ) → i < n → ◌≡◌ {A = ℕ} (get_or (replicate n 1) i 0) 1
replicate_at zero i l = absurd (omega arith)
replicate_at (suc n) zero l = refl
replicate_at (suc n) (suc i) l = replicate_at n i (omega arith)

module _ (n a w k i : ℕ) (l : k ≤ n) (m : i < n) where
  -- the place of seat i, counted from the seat after the puck
  from_puck : ℕ
  from_puck = (n - k + i) % n

  shared : List ℕ
  shared = share_out (a / ones n w) (a % ones n w) (turned k (flags_of n w))

  flags_length : length (flags_of n w) ≡ n
  flags_length = live_length (replicate n 1) w ∙ length-replicate n 1

  -- its flag and its share stand there
  flag_there : get_or (turned k (flags_of n w)) from_puck 0 ≡ get_or (flags_of n w) i 0
  unfolding from_puck
  flag_there =
      let f = flags_length in
      let j : (n - k + i) % n < n = mod-lt (n - k + i) (omega arith) in
      turned_at k (flags_of n w) ((n - k + i) % n) (omega arith) (omega arith)
      ∙ ap (λ z. get_or (flags_of n w) ((k + (n - k + i) % n) % z) 0) f
      ∙ ap (λ z. get_or (flags_of n w) z 0) (around_back n k i l m)

  share_there : get_or (shares_of n a w k) i 0 ≡ get_or shared from_puck 0
  unfolding shares_of shared from_puck
  share_there =
      let s : length (share_out (a / ones n w) (a % ones n w) (turned k (flags_of n w))) ≡ n =
      share_length (a / ones n w) (a % ones n w) (turned k (flags_of n w)) ∙ turned_length k (flags_of n w) ∙ flags_length in
      turned_at (n - k) (share_out (a / ones n w) (a % ones n w) (turned k (flags_of n w))) i (omega arith) (omega arith)
      ∙ ap (λ z. get_or (share_out (a / ones n w) (a % ones n w) (turned k (flags_of n w))) ((n - k + i) % z) 0) s

  -- who is no winner gets nothing
  pub shares_none : bit_at w i ≡ 0 → get_or (shares_of n a w k) i 0 ≡ 0
  unfolding shared
  shares_none e =
      share_there ∙ share_zero (a / ones n w) (a % ones n w) (turned k (flags_of n w)) from_puck (flag_there ∙ live_zero (replicate n 1) w i e)

  -- a winner gets the equal share, or one unit more
  pub shares_winner : bit_at w i ≡ 1 → (a / ones n w ≤ get_or (shares_of n a w k) i 0) × (get_or (shares_of n a w k) i 0 ≤ a / ones n w + 1)
  unfolding shared
  shares_winner e =
      let f = flag_there ∙ live_kept (replicate n 1) w i e ∙ replicate_at n i m in
      let s = share_winner (a / ones n w) (a % ones n w) (turned k (flags_of n w)) from_puck (omega (arith, f)) in
      (omega (arith, s.0, share_there), omega (arith, s.1, share_there))

-- so the shares of two winners of a pot differ by at most one unit
pub shares_differ : (n a w k i j : ℕ) → k ≤ n → i < n → j < n → bit_at w i ≡ 1 → bit_at w j ≡ 1 → get_or (shares_of n a w k) i 0 ≤ get_or (shares_of n a w k) j 0 + 1
shares_differ n a w k i j l p q e f = omega (arith, (shares_winner n a w k i l p e).1, (shares_winner n a w k j l q f).0)
