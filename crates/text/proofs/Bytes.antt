-- Laws of bytes: that each is within a range, byte by byte. Assumes nothing.
use mathlib.Core.Path.{◌≡◌}
use mathlib.Core.List.{List, [], ◌∷◌, ◌++◌}
use mathlib.Core.Bool.{true}
use Prim.Native.Nat.{ℕ, ◌+◌, ◌≤◌, ◌<◌}
use native.Mathlib.Numerals.{add-one}
use lib.ListN.{length, get_or, take}
use lib.Seq.{take-suc}
use borrow.Author.Tests.{le-leb}
use Rattle.laws.proofs.Tests.{both_true}
use Rattle.paper.specs.SheetAndEntries.{between}
use Rattle.text.specs.Bytes.{all_within}

-- the bytes at the front that are within the range, one more
pub within_snoc : (lo hi : ℕ) (bs : List ℕ) (b : ℕ) → all_within lo hi bs ≡ true → between lo hi b ≡ true → all_within lo hi (bs ++ (b ∷ [])) ≡ true
within_snoc lo hi [] b p q = rw q
within_snoc lo hi (c ∷ bs) b p q =
    let e = both_true (between lo hi c) (all_within lo hi bs) p in
    rw (e.0, within_snoc lo hi bs b e.1 q)

pub run_on : (lo hi : ℕ) (l : List ℕ) (i : ℕ) → i < length l → lo ≤ get_or l i 0 → get_or l i 0 ≤ hi → all_within lo hi (take i l) ≡ true → all_within lo hi (take (i + 1) l) ≡ true
run_on lo hi l i h p q e =
    let t : between lo hi (get_or l i 0) ≡ true = rw (le-leb lo (get_or l i 0) p, le-leb (get_or l i 0) hi q) in
    rw (add-one i, take-suc l i 0 h) (within_snoc lo hi (take i l) (get_or l i 0) e t)
