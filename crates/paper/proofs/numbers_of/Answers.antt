-- `numbers_of` meets its contract, kind by kind.
use Rattle.paper.proofs.numbers_of.Goals as goal

pub returns-in-Sit : goal.returns-in-Sit
returns-in-Sit c = rw c.in-Sit.is c.made.ensures

pub returns-in-Leave : goal.returns-in-Leave
returns-in-Leave c = rw c.in-Leave.is c.made-in-Leave.ensures

pub returns-in-Hand : goal.returns-in-Hand
returns-in-Hand c = rw c.in-Hand.is c.made-in-Hand.ensures

pub returns-in-Hole : goal.returns-in-Hole
returns-in-Hole c = rw c.in-Hole.is c.made-in-Hole.ensures

pub returns-in-Fold : goal.returns-in-Fold
returns-in-Fold c = rw c.in-Fold.is c.made-in-Fold.ensures

pub returns-in-Check : goal.returns-in-Check
returns-in-Check c = rw c.in-Check.is c.made-in-Check.ensures

pub returns-in-Call : goal.returns-in-Call
returns-in-Call c = rw c.in-Call.is c.made-in-Call.ensures

pub returns-in-Wager : goal.returns-in-Wager
returns-in-Wager c = rw c.in-Wager.is c.made-in-Wager.ensures

pub returns-in-Board : goal.returns-in-Board
returns-in-Board c = rw c.in-Board.is c.made-in-Board.ensures

pub returns-in-Dead : goal.returns-in-Dead
returns-in-Dead c = rw c.in-Dead.is c.made-in-Dead.ensures

pub returns-in-Settle : goal.returns-in-Settle
returns-in-Settle c = rw c.in-Settle.is c.made-in-Settle.ensures

pub returns-in-Void : goal.returns-in-Void
returns-in-Void c = rw c.in-Void.is c.made-in-Void.ensures
