-- `nearer` meets its contract.
-- Assumes nothing.
use borrow.Author.Tests.{lt-ltb, le-ltb}
use Rattle.pots.proofs.nearer.Goals as goal

pub returns-then-lo-t : goal.returns-then-lo-t
returns-then-lo-t c = simp (lt-ltb _ _ c.if-lo-t.true) c.min.ensures

pub returns-else-lo-t : goal.returns-else-lo-t
returns-else-lo-t c = simp (le-ltb _ _ c.if-lo-t.false)
