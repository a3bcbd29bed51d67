-- `in_mask` meets its contract.
use Prim.Native.Nat.{◌-◌}
use mathlib.Core.Path.{◌≡◌}
use Rattle.columns.specs.Columns.{in_mask}
use Rattle.columns.proofs.in_mask.Given as goal

abbrev pub invariant-loop-i : goal.invariant-loop-i
invariant-loop-i l = in_mask l.rest (l.place - l._i) ≡ in_mask l.mask l.place
