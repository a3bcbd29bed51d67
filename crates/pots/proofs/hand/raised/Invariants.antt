-- `raised` meets its contract. The invariant: what is written and the rest with 1 added are those of all.
-- Assumes nothing.
use Prim.Native.Nat.{suc}
use mathlib.Core.Path.{◌≡◌}
use mathlib.Core.List.{◌++◌, map}
use lib.ListN.{length, drop, take}
use Rattle.pots.proofs.hand.raised.Given as goal

abbrev pub invariant-loop-i : goal.invariant-loop-i
invariant-loop-i l = (length l.a ≡ 10) × (take l.i l.a ++ map suc (drop l.i l.x-items) ≡ map suc l.x-items)
