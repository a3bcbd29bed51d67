-- `put_rest` meets its contract, by the line's kind.
use Rattle.figures.proofs.Puts.{put_none}
use Rattle.picture.specs.Rows.{rest_row}
use borrow.Author.Tests.{eq-eqb, ne_eqb}
use native.Mathlib.Omega.{arith}
use mathlib.Core.Path.{sym, ◌∙◌}
use Rattle.picture.proofs.rows.put_rest.Goals as goal

pub returns-then-half : goal.returns-then-half
unfolding rest_row
returns-then-half c = (rw (sym c.half.ensures ∙ c.if-half.true) (put_none c.args.at c.args.out.now (omega (arith, c.requires.1))), omega arith)

pub put_verdict-requires : goal.put_verdict-requires
put_verdict-requires c = (c.requires.0.code c.if-kind-eq1.true, omega (arith, c.requires.1))

pub returns-then-kind-eq1 : goal.returns-then-kind-eq1
unfolding rest_row
returns-then-kind-eq1 c = (rw (sym c.half.ensures ∙ c.if-half.false, eq-eqb _ _ c.if-kind-eq1.true) c.put_verdict.ensures.0, omega (arith, c.put_verdict.ensures.1))

pub returns-then-kind-eq2 : goal.returns-then-kind-eq2
unfolding rest_row
returns-then-kind-eq2 c = (rw (sym c.half.ensures ∙ c.if-half.false, ne_eqb _ _ c.if-kind-eq1.false, eq-eqb _ _ c.if-kind-eq2.true) c.put_lamp.ensures.0, omega (arith, c.put_lamp.ensures.1))

pub returns : goal.returns
unfolding rest_row
returns c = (rw (sym c.half.ensures ∙ c.if-half.false, ne_eqb _ _ c.if-kind-eq1.false, ne_eqb _ _ c.if-kind-eq2.false) c.put_amount.ensures.0, omega (arith, c.put_amount.ensures.1))
