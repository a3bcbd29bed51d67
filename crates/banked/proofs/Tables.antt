-- The payout columns: none pays more than 1,000, and they say what Tables 2 and 3 print, row by row of 3.44's list. And so many times a stake is bounded.
-- Assumes nothing.
use mathlib.Core.Path.{◌≡◌, refl}
use mathlib.Core.Bool.{Bool, true, false}
use mathlib.Core.List.{List, [], ◌∷◌}
use Prim.Native.Nat.{ℕ, zero, suc, ◌*◌, ◌≤◌, zero-le}
use native.Mathlib.Nat.{mul-le-mul_right}
use lib.Dec.{eqb, leb}
use lib.ListN.{get_or}
use borrow.Author.Tests.{leb-true, eqb-true}
use Rattle.laws.specs.Tests.{pick}
use Rattle.laws.proofs.Tests.{both_true}
use Rattle.laws.proofs.Members.{all_pass}
use Rattle.banked.specs.Hands.{Hand, is_royal, row_of_hand}
use Rattle.banked.specs.Payouts.{extra_column, bonus_column, extra_odds, bonus_times, table2, table3}

most : ℕ → Bool
most x = leb x 1000

most_at : (l : List ℕ) → all_pass most l ≡ true → (k : ℕ) → get_or l k 0 ≤ 1000
unfolding most
most_at [] e k = zero-le
most_at (x ∷ l) e zero = leb-true x 1000 (both_true (most x) (all_pass most l) e).0
most_at (x ∷ l) e (suc k) = most_at l (both_true (most x) (all_pass most l) e).1 k

-- past a column's end there is 0
pub extra_most : (k : ℕ) → get_or extra_column k 0 ≤ 1000
unfolding most
extra_most = most_at extra_column refl

pub bonus_most : (k : ℕ) → get_or bonus_column k 0 ≤ 1000
unfolding most
bonus_most = most_at bonus_column refl

-- Table 3 as it is printed
pub extra_printed : (h : Hand) → extra_odds h ≡ get_or table3 (row_of_hand h) 0
unfolding extra_odds row_of_hand
extra_printed h = go (is_royal h)
  where
    go : (b : Bool) → pick b 1000 (get_or extra_column h.class 0) ≡ get_or table3 (pick b 0 (suc h.class)) 0
    go true = refl
    go false = refl

-- Table 2 as it is printed
pub bonus_printed : (h : Hand) → bonus_times h ≡ get_or table2 (row_of_hand h) 0
unfolding bonus_times row_of_hand is_royal
bonus_printed h = go (is_royal h) refl
  where
    go : (b : Bool) → is_royal h ≡ b → get_or bonus_column h.class 0 ≡ get_or table2 (pick b 0 (suc h.class)) 0
    go true e = rw (eqb-true h.class 0 (both_true (eqb h.class 0) (eqb h.r1 14) e).0)
    go false e = refl

pub times_most : (n s : ℕ) → n ≤ 1000 → n * s ≤ 1000 * s
times_most n s h = mul-le-mul_right s h
