-- `dot` meets its contract, by its test.
use Rattle.figures.specs.Lamp.{dot_of}
use borrow.Author.Tests.{eq-eqb, ne_eqb}
use Rattle.figures.proofs.font.dot.Goals as goal

pub returns-then-row-p-eq1 : goal.returns-then-row-p-eq1
unfolding dot_of
returns-then-row-p-eq1 c = rw (eq-eqb _ _ c.if-row-p-eq1.true)

pub returns-else-row-p-eq1 : goal.returns-else-row-p-eq1
unfolding dot_of
returns-else-row-p-eq1 c = rw (ne_eqb _ _ c.if-row-p-eq1.false)
