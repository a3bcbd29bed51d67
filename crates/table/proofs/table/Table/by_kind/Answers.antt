-- `Table::by_kind` meets its contract: each arm does, and the last one is that of the four acts.
use Rattle.table.proofs.Acts.{acts}
use Rattle.table.proofs.Arms.{refused_by}
use native.Mathlib.Omega.{arith}
use mathlib.Core.Path.{◌≡◌, refl}
use Rattle.paper.specs.declared.Entry.TheVariants.{Void}
use Rattle.table.proofs.table.Table.by_kind.Goals as goal

pub sit-requires : goal.sit-requires
sit-requires c = (c.requires.0, rw c.in-Sit.is at c.requires.1)

pub leave-requires : goal.leave-requires
leave-requires c = (c.requires.0, rw c.in-Leave.is at c.requires.1)

pub hand-requires : goal.hand-requires
hand-requires c = (c.requires.0, rw c.in-Hand.is at c.requires.1)

pub hole-requires : goal.hole-requires
hole-requires c = (c.requires.0, rw c.in-Hole.is at c.requires.1)

pub board-requires : goal.board-requires
board-requires c = (c.requires.0, rw c.in-Board.is at c.requires.1)

pub dead-requires : goal.dead-requires
dead-requires c = (c.requires.0, rw c.in-Dead.is at c.requires.1)

pub act-requires : goal.act-requires
act-requires c = (c.requires.0, c.requires.1, acts c.args.e c.in_default.in_default-own.keys9)

pub returns-in-Sit : goal.returns-in-Sit
returns-in-Sit c = rw c.in-Sit.is c.sit.ensures

pub returns-in-Leave : goal.returns-in-Leave
returns-in-Leave c = rw c.in-Leave.is c.leave.ensures

pub returns-in-Hand : goal.returns-in-Hand
returns-in-Hand c = rw c.in-Hand.is c.hand.ensures

pub returns-in-Hole : goal.returns-in-Hole
returns-in-Hole c = rw c.in-Hole.is c.hole.ensures

pub returns-in-Board : goal.returns-in-Board
returns-in-Board c = rw c.in-Board.is c.board.ensures

pub returns-in-Dead : goal.returns-in-Dead
returns-in-Dead c = rw c.in-Dead.is c.dead.ensures

pub returns-in-Settle : goal.returns-in-Settle
returns-in-Settle c = rw c.in-Settle.is c.settle_hand.ensures

pub returns-in-Void : goal.returns-in-Void
returns-in-Void c = rw c.in-Void.is (refused_by c.args.self Void _ 4 refl (λ (z : 4 ≡ 0). omega arith) c.judged.ensures)
