-- `hole_with` meets its contract: the first pair, and the second.
use borrow.Author.Tests.{eq-eqb, ne_eqb}
use Rattle.chairs.proofs.hole_with.Goals as goal

pub returns-then-h-eq0 : goal.returns-then-h-eq0
returns-then-h-eq0 c = rw (eq-eqb _ _ c.if-h-eq0.true)

pub returns : goal.returns
returns c = rw (ne_eqb _ _ c.if-h-eq0.false)
