-- `pieces::colours::put_lit` meets its contract: each row of the lamp takes 28 bytes. Assumes nothing.
use mathlib.Core.Path.{◌≡◌}
use Prim.Native.Nat.{◌+◌, ◌*◌}
use Rattle.pieces.proofs.colours.put_lit.Given as goal

abbrev pub invariant-loop-row : goal.invariant-loop-row
invariant-loop-row l = l.at ≡ l.from + 28 * l.row
