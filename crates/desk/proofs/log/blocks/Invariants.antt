-- `blocks` meets its contract.
use Rattle.desk.proofs.Whole.{Going}
use lib.ListN.{length}
use Rattle.desk.proofs.log.blocks.Given as goal

abbrev pub invariant-loop-left : goal.invariant-loop-left
invariant-loop-left l =
    Going l.initial.table l.log l.initial.out l.table l.left l.out l.at

abbrev pub decreases-loop-left : goal.decreases-loop-left
decreases-loop-left l =
    length l.left
