-- Laws of ranges, and of the entry that a block's numbers make. Assumes nothing.
use mathlib.Core.Path.{◌≡◌, refl, sym, ap, ◌∙◌}
use mathlib.Core.Bool.{Bool, true, false}
use Prim.Native.Nat.{ℕ, zero, suc, ◌≤◌, ◌<◌}
use native.Mathlib.Omega.{arith}
use borrow.Author.Tests.{le-leb, ltb-true, eqb-true}
use lib.Dec.{ltb, eqb}
use Rattle.std.specs.Prelude.{Ok, Err}
use Rattle.paper.specs.declared.refusal.Refusal.TheVariants.{OutOfRange}
use Rattle.laws.specs.Tests.{both, pick}
use Rattle.laws.proofs.Tests.{both_true}
use Rattle.paper.specs.SheetAndEntries.{between, made, row_at, spared, makes_entry, numbers_of, is_count, block_fits, in_range}
use Rattle.paper.specs.declared.Sheet.{Sheet}
use Rattle.paper.specs.declared.Numbers.{Numbers}
use Rattle.paper.specs.declared.Entry.{Entry}
use Rattle.paper.specs.declared.Entry.TheVariants.{Sit, Leave, Hand, Hole, Fold, Check, Call, Wager, Board, Dead, Settle, Void}
use Rattle.laws.proofs.Conjunction.{both_none}
use Rattle.blocks.specs.Entry.{entry_at, parsed_of}

module _ (from to x : ℕ) where
  pub in_range_law : from ≤ x → x ≤ to → between from to x ≡ true
  in_range_law h k = rw (le-leb from x h, le-leb x to k)

module _ (k seat a b : ℕ) where
  pub kind_known : makes_entry (made k seat a b) ≡ true → k < 12
  kind_known e = ltb-true k 12 (both_true (ltb k 12) (spared (row_at k) (made k seat a b)) e).0

  pub entry_read : makes_entry (made k seat a b) ≡ true → parsed_of k seat a b ≡ Ok (entry_at k seat a b)
  unfolding parsed_of
  entry_read e = rw e

  pub entry_none : makes_entry (made k seat a b) ≡ false → parsed_of k seat a b ≡ Err OutOfRange
  unfolding parsed_of
  entry_none e = rw e

-- ---- an entry and its numbers determine each other

module _ (k seat a b : ℕ) where
  zero_b : eqb b 0 ≡ true → made k seat a 0 ≡ made k seat a b
  zero_b e = rw (eqb-true b 0 e)

  zero_ab : both (eqb a 0) (eqb b 0) ≡ true → made k seat 0 0 ≡ made k seat a b
  zero_ab e = let p = both_true (eqb a 0) (eqb b 0) e in rw (eqb-true a 0 p.0, eqb-true b 0 p.1)

  zero_sb : both (eqb seat 0) (eqb b 0) ≡ true → made k 0 a 0 ≡ made k seat a b
  zero_sb e = let p = both_true (eqb seat 0) (eqb b 0) e in rw (eqb-true seat 0 p.0, eqb-true b 0 p.1)

zero_sab : (k seat a b : ℕ) → both (eqb seat 0) (both (eqb a 0) (eqb b 0)) ≡ true → made k 0 0 0 ≡ made k seat a b
zero_sab k seat a b e =
    let p = both_true (eqb seat 0) (both (eqb a 0) (eqb b 0)) e in
    let q = both_true (eqb a 0) (eqb b 0) p.1 in
    rw (eqb-true seat 0 p.0, eqb-true a 0 q.0, eqb-true b 0 q.1)

-- the numbers of the entry that a block's numbers make are those numbers
pub numbers_back : (k seat a b : ℕ) → makes_entry (made k seat a b) ≡ true → numbers_of (entry_at k seat a b) ≡ made k seat a b
numbers_back zero seat a b e = zero_b 0 seat a b e
numbers_back (suc zero) seat a b e = zero_ab 1 seat a b e
numbers_back (suc (suc zero)) seat a b e = zero_ab 2 seat a b e
numbers_back (suc (suc (suc zero))) seat a b e = refl
numbers_back (suc (suc (suc (suc zero)))) seat a b e = zero_ab 4 seat a b e
numbers_back (suc (suc (suc (suc (suc zero))))) seat a b e = zero_ab 5 seat a b e
numbers_back (suc (suc (suc (suc (suc (suc zero)))))) seat a b e = zero_ab 6 seat a b e
numbers_back (suc (suc (suc (suc (suc (suc (suc zero))))))) seat a b e = zero_b 7 seat a b e
numbers_back (suc (suc (suc (suc (suc (suc (suc (suc zero)))))))) seat a b e = zero_sb 8 seat a b e
numbers_back (suc (suc (suc (suc (suc (suc (suc (suc (suc zero))))))))) seat a b e = zero_ab 9 seat a b e
numbers_back (suc (suc (suc (suc (suc (suc (suc (suc (suc (suc zero)))))))))) seat a b e = zero_sab 10 seat a b e
numbers_back (suc (suc (suc (suc (suc (suc (suc (suc (suc (suc (suc zero))))))))))) seat a b e = zero_sab 11 seat a b e
numbers_back (suc (suc (suc (suc (suc (suc (suc (suc (suc (suc (suc (suc k)))))))))))) seat a b e = absurd (omega (arith, kind_known (suc (suc (suc (suc (suc (suc (suc (suc (suc (suc (suc (suc k)))))))))))) seat a b e))

-- an entry's numbers make that entry
pub entry_back : (e : Entry) → parsed_of (numbers_of e).kind (numbers_of e).seat (numbers_of e).a (numbers_of e).b ≡ Ok e
unfolding parsed_of
entry_back (Sit s a) = refl
entry_back (Leave s) = refl
entry_back (Hand s) = refl
entry_back (Hole s a b) = refl
entry_back (Fold s) = refl
entry_back (Check s) = refl
entry_back (Call s) = refl
entry_back (Wager s a) = refl
entry_back (Board k) = refl
entry_back (Dead s) = refl
entry_back Settle = refl
entry_back Void = refl

-- ---- code 2: an entry that was read gets it by the very test that its block's numbers do, and numbers that make no entry always get it

pub read_is : (k seat a b : ℕ) (e : Entry) → parsed_of k seat a b ≡ Ok e → (makes_entry (made k seat a b) ≡ true) × (entry_at k seat a b ≡ e)
unfolding parsed_of
read_is k seat a b e h = go (makes_entry (made k seat a b)) refl h
  where
    go : (t : Bool) → makes_entry (made k seat a b) ≡ t → pick t (Ok (entry_at k seat a b)) (Err OutOfRange) ≡ Ok e
        → (makes_entry (made k seat a b) ≡ true) × (entry_at k seat a b ≡ e)
    go true w v = (w, cc)
    go false w v = let z : ◌≡◌ {A = ℕ} 0 1 = cc in absurd (omega arith)

pub read_fits : (sheet : Sheet) (n k seat a b : ℕ) (e : Entry) → parsed_of k seat a b ≡ Ok e → in_range sheet n e ≡ block_fits sheet n (made k seat a b)
unfolding in_range
read_fits sheet n k seat a b e h =
    let p = read_is k seat a b e h in
    ap (λ (x : Numbers). block_fits sheet n x) (ap numbers_of (sym p.1) ∙ numbers_back k seat a b p.0)

pub unread : (sheet : Sheet) (n k seat a b : ℕ) → parsed_of k seat a b ≡ Err OutOfRange → block_fits sheet n (made k seat a b) ≡ false
unfolding parsed_of
unread sheet n k seat a b h = go (makes_entry (made k seat a b)) refl h
  where
    go : (t : Bool) → makes_entry (made k seat a b) ≡ t → pick t (Ok (entry_at k seat a b)) (Err OutOfRange) ≡ Err OutOfRange → block_fits sheet n (made k seat a b) ≡ false
    go true w v = let z : ◌≡◌ {A = ℕ} 0 1 = cc in absurd (omega arith)
    go false w v = rw w (both_none (is_count n))
