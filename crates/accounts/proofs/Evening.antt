-- The evening's sums over any number of blocks and sittings: below the bound, which no evening comes near, a sum is the sum; every block is counted once, so the blocks
-- by code sum to all blocks; and where each sitting's account comes out, the sums over the sittings come out. Assumes nothing.
use Prim.Native.Nat.{ℕ, zero, suc, ◌+◌, ◌≤◌, ◌<◌, min}
use mathlib.Core.Path.{◌≡◌, refl}
use mathlib.Core.List.{List, [], ◌∷◌}
use native.Mathlib.Omega.{arith}
use lib.ListN.{length, get_or, set, length-set}
use borrow.Author.Tests.{le-ltb}
use Rattle.laws.specs.Lists.{sum_of}
use Rattle.accounts.specs.Sums.{bound, added_to, counted, counted_all, totalled, ComesOut, SumsComeOut, Below}
use Rattle.accounts.specs.declared.Account.{Account}
use Rattle.accounts.specs.declared.Sums.{Sums}

-- a sum below the bound is the sum
pub added_plain : (x by : ℕ) → x ≤ bound → by ≤ bound → added_to x by ≡ x + by
unfolding added_to
added_plain x by l m = rw (le-ltb bound x l, le-ltb bound by m) refl

-- an element of a list is at most its sum, and changes it by as much as it is changed
one_of : (l : List ℕ) (p : ℕ) → get_or l p 0 ≤ sum_of l
unfolding sum_of
one_of [] p = omega arith
one_of (x ∷ l) zero = omega arith
one_of (x ∷ l) (suc p) = omega (arith, one_of l p)

sum_set : (l : List ℕ) (p x : ℕ) → p < length l → sum_of (set l p x) + get_or l p 0 ≡ sum_of l + x
unfolding sum_of
sum_set [] p x h = absurd (omega arith)
sum_set (y ∷ l) zero x h = omega arith
sum_set (y ∷ l) (suc p) x h = omega (arith, sum_set l p x (omega arith))

-- one block more is counted once
one_more : (l : List ℕ) (k : ℕ) → 12 < length l → sum_of l ≤ bound → sum_of (counted l k) ≡ sum_of l + 1
unfolding counted
one_more l k h b =
    let e = added_plain (get_or l (min k 12) 0) 1 (omega (arith, one_of l (min k 12))) (omega arith) in
    omega (arith, sum_set l (min k 12) (added_to (get_or l (min k 12) 0) 1) (omega arith), e)

as_long : (l : List ℕ) (k : ℕ) → length (counted l k) ≡ length l
unfolding counted
as_long l k = length-set l (min k 12) _

-- the blocks by code sum to all blocks
pub all_counted : (l ks : List ℕ) → 12 < length l → sum_of l + length ks ≤ bound → sum_of (counted_all l ks) ≡ sum_of l + length ks
all_counted l [] h b = omega arith
all_counted l (k ∷ ks) h b =
    let e = one_more l k h (omega arith) in
    omega (arith, e, all_counted (counted l k) ks (omega (arith, as_long l k)) (omega (arith, e)))

-- where the account of one sitting more comes out, the sums with it come out
pub sums_come_out : (s : Sums) (a : Account) (home : ℕ) → Below s a home → SumsComeOut s → ComesOut a home → SumsComeOut (totalled s a home)
sums_come_out s a home b e f =
    rw (
      added_plain s.brought a.brought b.brought.0 b.brought.1,
      added_plain s.paid a.paid b.paid.0 b.paid.1,
      added_plain s.put a.put b.put.0 b.put.1,
      added_plain s.home home b.home.0 b.home.1,
    )
    (omega (arith, e, f))
