-- `comma` meets its contract, by its test.
use Rattle.figures.specs.Grouped.{comma_at}
use borrow.Author.Tests.{lt-ltb, le-ltb}
use Rattle.figures.proofs.grouped.comma.Goals as goal

pub returns-then-n-p : goal.returns-then-n-p
unfolding comma_at
returns-then-n-p c = rw (lt-ltb _ _ c.if-n-p.true)

pub returns-else-n-p : goal.returns-else-n-p
unfolding comma_at
returns-else-n-p c = rw (le-ltb _ _ c.if-n-p.false)
