-- `number_for` meets its contract.
-- Assumes nothing.
use borrow.Author.Tests.{lt-ltb, le-ltb}
use Rattle.try_pots.proofs.hand.number_for.Goals as goal

pub returns-then-i-seats : goal.returns-then-i-seats
returns-then-i-seats c = rw (lt-ltb _ _ c.if-i-seats.true) c.number_at.ensures

pub returns-else-i-seats : goal.returns-else-i-seats
returns-else-i-seats c = rw (le-ltb _ _ c.if-i-seats.false)
