-- `placed` meets its contract, by its test.
use Rattle.figures.specs.Grouped.{placed_at}
use borrow.Author.Tests.{lt-ltb, le-ltb}
use Rattle.figures.proofs.grouped.placed.Goals as goal

pub returns-then-n-p : goal.returns-then-n-p
unfolding placed_at
returns-then-n-p c = rw (lt-ltb _ _ c.if-n-p.true)

pub returns : goal.returns
unfolding placed_at
returns c = rw (le-ltb _ _ c.if-n-p.false)
