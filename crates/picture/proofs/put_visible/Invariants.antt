-- `put_visible` meets its contract: after i turns the first i bytes are shown.
use Rattle.picture.specs.Rows.{visible_all}
use Rattle.figures.specs.Placing.{Put}
use lib.ListN.{take}
use Prim.Native.Nat.{◌+◌}
use Rattle.picture.proofs.put_visible.Given as goal

abbrev pub invariant-loop-i : goal.invariant-loop-i
invariant-loop-i l = Put (visible_all (take l.i l.bytes)) l.at l.initial.out l.out (l.at + l.i)
