-- `try_log` meets its contract.
use Rattle.table.specs.Take.{Sound}
use lib.ListN.{length}
use Rattle.try_rooms.proofs.try_log.Given as goal

abbrev pub invariant-loop-left : goal.invariant-loop-left
invariant-loop-left l = Sound l.table

abbrev pub decreases-loop-left : goal.decreases-loop-left
decreases-loop-left l = length l.left
