-- `put_verdict` meets its contract, by its test.
use Rattle.figures.proofs.Puts.{next}
use Rattle.picture.specs.Rows.{verdict_of}
use borrow.Author.Tests.{eq-eqb, ne_eqb}
use native.Mathlib.Omega.{arith}
use Rattle.picture.proofs.rows.put_verdict.Goals as goal

pub returns-then-code-eq0 : goal.returns-then-code-eq0
unfolding verdict_of
returns-then-code-eq0 c = (rw (eq-eqb _ _ c.if-code-eq0.true) c.put_cell.ensures.0, omega (arith, c.put_cell.ensures.1))

pub returns : goal.returns
unfolding verdict_of
returns c = (rw (ne_eqb _ _ c.if-code-eq0.false) (next (next c.put_cell-a.ensures.0 c.put_words-b.ensures.0) c.put_rule_if.ensures.0), omega (arith, c.put_cell-a.ensures.1, c.put_words-b.ensures.1, c.put_rule_if.ensures.1))
