-- `in_place` meets its contract: at each turn what was written and what is left, and the pots of the table, are said by `Going`; it ends where the part is
-- used up, at a block that is not whole, and at one whose answer has no room, where the table before it was kept.
use Rattle.stream.proofs.Going.{Going}
use lib.ListN.{length}
use Rattle.stream.proofs.place.in_place.Given as goal

abbrev pub invariant-loop-left : goal.invariant-loop-left
invariant-loop-left l = Going l.initial.table l.part l.initial.out l.table l.stands l.left l.out l.at

abbrev pub decreases-loop-left : goal.decreases-loop-left
decreases-loop-left l = length l.left
