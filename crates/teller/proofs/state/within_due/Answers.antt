-- `teller::state::within_due` meets its contract: its bounds. Assumes nothing.
use borrow.Author.Tests.{eq-eqb, ne_eqb}
use mathlib.Core.Path.{refl}
use Rattle.teller.proofs.state.within_due.Goals as goal

pub returns-then-due-eq-ROWS_DUE : goal.returns-then-due-eq-ROWS_DUE
returns-then-due-eq-ROWS_DUE c = rw (eq-eqb c.args.due 0 c.if-due-eq-ROWS_DUE.true) refl

pub returns-then-due-eq-WORTH_DUE : goal.returns-then-due-eq-WORTH_DUE
returns-then-due-eq-WORTH_DUE c = rw (ne_eqb c.args.due 0 c.if-due-eq-ROWS_DUE.false, eq-eqb c.args.due 1 c.if-due-eq-WORTH_DUE.true) c.both.ensures

pub returns : goal.returns
returns c = rw (ne_eqb c.args.due 0 c.if-due-eq-ROWS_DUE.false, ne_eqb c.args.due 1 c.if-due-eq-WORTH_DUE.false) refl
