-- `best_if` meets its contract.
use borrow.Author.Tests.{eq-eqb, ne_eqb}
use Rattle.columns.proofs.best_if.Goals as goal

pub returns-then-mask-eq1 : goal.returns-then-mask-eq1
returns-then-mask-eq1 c = rw (eq-eqb _ _ c.if-mask-eq1.true) c.max.ensures

pub returns : goal.returns
returns c = simp (ne_eqb _ _ c.if-mask-eq1.false)
