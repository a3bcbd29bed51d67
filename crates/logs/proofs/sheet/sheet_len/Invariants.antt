-- `sheet_len` meets its contract: what is counted and the lines still to come make up the sheet.
use lib.ListN.{length}
use Prim.Native.Nat.{◌+◌, ◌*◌, ◌≤◌}
use mathlib.Core.Path.{◌≡◌}
use Rattle.logs.proofs.Puts.{lines_from}
use Rattle.logs.proofs.sheet.sheet_len.Given as goal

abbrev pub invariant-loop-k : goal.invariant-loop-k
invariant-loop-k l = (l.at ≤ l.k * 16) × (l.at + length (lines_from l.n-items l.k) ≡ length (lines_from l.n-items 0))
