-- `teller::state::taken_due` meets its contract: the number of the tray's line that is due. Assumes nothing.
use Rattle.teller.specs.Keeping.{taken_due}
use borrow.Author.Tests.{eq-eqb, ne_eqb}
use mathlib.Core.Path.{refl, ◌∙◌}
use Rattle.teller.proofs.state.taken_due.Goals as goal

pub returns-then-s-eq-ROWS_DUE : goal.returns-then-s-eq-ROWS_DUE
unfolding taken_due
returns-then-s-eq-ROWS_DUE c = rw (eq-eqb c.args.s.due 0 c.if-s-eq-ROWS_DUE.true) (c.with_tray.ensures ∙ rw c.due_after.ensures refl)

pub returns-then-s-eq-WORTH_DUE : goal.returns-then-s-eq-WORTH_DUE
unfolding taken_due
returns-then-s-eq-WORTH_DUE c = rw (ne_eqb c.args.s.due 0 c.if-s-eq-ROWS_DUE.false, eq-eqb c.args.s.due 1 c.if-s-eq-WORTH_DUE.true) c.with_tray-then-s-eq-WORTH_DUE.ensures

pub returns : goal.returns
unfolding taken_due
returns c = rw (ne_eqb c.args.s.due 0 c.if-s-eq-ROWS_DUE.false, ne_eqb c.args.s.due 1 c.if-s-eq-WORTH_DUE.false) (c.with_tray-2.ensures ∙ rw (c.due_after-2.ensures, c.one_more.ensures, c.put.ensures) refl)
