-- The table of rows: the tests of a row's numbers in the order that the code takes them, and when code 2 applies. Assumes nothing.
use Prim.Native.Nat.{ℕ, ◌+◌, ◌≤◌, ◌<◌}
use native.Mathlib.Omega.{arith}
use mathlib.Core.Bool.{Bool, true, false, not}
use mathlib.Core.Path.{◌≡◌, refl, sym, ◌∙◌}
use mathlib.Core.List.{[]}
use borrow.Author.Tests.{lt-ltb, le-ltb}
use Rattle.laws.specs.Tests.{both, either}
use Rattle.laws.proofs.Conjunction.{both_end, both_none}
use Rattle.paper.specs.SheetAndEntries.{if_used, all_of, row_at, spared, ranged, makes_entry, is_count, block_fits}
use Rattle.paper.specs.declared.Sheet.{Sheet}
use Rattle.paper.specs.declared.KindRow.{KindRow}
use Rattle.paper.specs.declared.Numbers.{Numbers}

-- three numbers, each used or not
-- a number that is at least m and is not m is at least the next
pub past : (k m : ℕ) → m ≤ k → (k ≡ m → ⊥) → m + 1 ≤ k
past k m h n = omega arith

pub only : (k m : ℕ) → m ≤ k → k < m + 1 → k ≡ m
only k m h n = omega arith

pub used_tests : (u v w s a b : Bool)
    → both (either (not u) s) (both (either (not v) a) (either (not w) b)) ≡ all_of (if_used u s (if_used v a (if_used w b [])))
used_tests true true true s a b = refl
used_tests true true false s a b = rw (both_end a)
used_tests true false true s a b = refl
used_tests true false false s a b = both_end s
used_tests false true true s a b = refl
used_tests false true false s a b = both_end a
used_tests false false true s a b = refl
used_tests false false false s a b = refl

module _ (x : Numbers) where
  pub kind_known : x.kind < 12 → spared (row_at x.kind) x ≡ makes_entry x
  kind_known h = rw (lt-ltb x.kind 12 h)

  pub kind_unknown : 12 ≤ x.kind → false ≡ makes_entry x
  kind_unknown h = rw (le-ltb x.kind 12 h)

  -- the row, the answers of the four tests, and what they were asked
  pub row_fits : (sheet : Sheet) (n : ℕ) {row : KindRow} {zero used fit count r : Bool} → x.kind < 12
      → row ≡ row_at x.kind → zero ≡ spared row x → used ≡ ranged sheet row x → fit ≡ both zero used
      → count ≡ is_count n → r ≡ both count fit → r ≡ block_fits sheet n x
  row_fits sheet n h w z u f c e = e ∙ rw (f, c, z, u, w, lt-ltb x.kind 12 h)

  pub row_missing : (sheet : Sheet) (n : ℕ) → 12 ≤ x.kind → false ≡ block_fits sheet n x
  row_missing sheet n h = rw (le-ltb x.kind 12 h) (sym (both_none (is_count n)))
