-- `chairs_in` meets its contract.
use Rattle.packed.specs.Layout.{chairs_in}
use lib.ListN.{length, take, drop}
use mathlib.Core.Path.{◌≡◌}
use mathlib.Core.List.{◌++◌}
use Prim.Native.Nat.{◌-◌, ◌*◌}
use Rattle.packed.proofs.chairs_in.Given as goal

abbrev pub invariant-loop-i : goal.invariant-loop-i
invariant-loop-i l = (length l.cs ≡ 10) × (take l.i l.cs ++ chairs_in (10 - l.i) (drop (28 * l.i) l.b) ≡ chairs_in 10 l.b)
