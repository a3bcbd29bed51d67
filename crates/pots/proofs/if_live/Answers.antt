-- `if_live` meets its contract.
-- Assumes nothing.
use borrow.Author.Tests.{eq-eqb, ne_eqb}
use Rattle.pots.proofs.if_live.Goals as goal

pub returns-then-mask-eq1 : goal.returns-then-mask-eq1
returns-then-mask-eq1 c = simp (eq-eqb _ _ c.if-mask-eq1.true)

pub returns-else-mask-eq1 : goal.returns-else-mask-eq1
returns-else-mask-eq1 c = simp (ne_eqb _ _ c.if-mask-eq1.false)
