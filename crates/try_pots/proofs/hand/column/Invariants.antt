-- `column` meets its contract. The invariant: in front of the place the numbers are written, behind it they are still to come.
-- Assumes nothing.
use Rattle.try_pots.specs.MadeHands.{listed, number_for, column_of}
use lib.ListN.{length, take}
use Prim.Native.Nat.{◌-◌}
use mathlib.Core.List.{◌++◌}
use mathlib.Core.Path.{◌≡◌}
use Rattle.try_pots.proofs.hand.column.Given as goal

abbrev pub invariant-loop-i : goal.invariant-loop-i
invariant-loop-i l = (length l.a ≡ 10) × (take l.i l.a ++ listed (number_for l.nums l.from l.seats) l.i (10 - l.i) ≡ column_of l.nums l.from l.seats)
