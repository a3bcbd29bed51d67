-- `teller::state::answer_line` meets its contract: a line of answers, by its kind. Assumes nothing.
use Rattle.teller.specs.Keeping.{answer_line, listing}
use borrow.Author.Tests.{eq-eqb, ne_eqb}
use mathlib.Core.Path.{refl, ◌∙◌, ap}
use Rattle.teller.proofs.state.answer_line.Goals as goal

pub returns-then-l-eq-SITTING : goal.returns-then-l-eq-SITTING
unfolding answer_line
returns-then-l-eq-SITTING c = rw (eq-eqb c.args.l.kind 3 c.if-l-eq-SITTING.true) (c.listing.ensures ∙ ap (λ x. listing c.args.s 3 x) c.sitting_line.ensures)

pub returns-then-l-eq-PAID : goal.returns-then-l-eq-PAID
unfolding answer_line
returns-then-l-eq-PAID c = rw (ne_eqb c.args.l.kind 3 c.if-l-eq-SITTING.false, eq-eqb c.args.l.kind 4 c.if-l-eq-PAID.true) (c.listing-then-l-eq-PAID.ensures ∙ ap (λ x. listing c.args.s 3 x) c.paid_line.ensures)

pub returns-then-l-eq-UNCLAIMED : goal.returns-then-l-eq-UNCLAIMED
unfolding answer_line
returns-then-l-eq-UNCLAIMED c = rw (ne_eqb c.args.l.kind 3 c.if-l-eq-SITTING.false, ne_eqb c.args.l.kind 4 c.if-l-eq-PAID.false, eq-eqb c.args.l.kind 5 c.if-l-eq-UNCLAIMED.true) (c.listing-then-l-eq-UNCLAIMED.ensures ∙ ap (λ x. listing c.args.s 4 x) (rw (c.marked.ensures, c.now_bad.ensures) refl))

pub returns : goal.returns
unfolding answer_line
returns c = rw (ne_eqb c.args.l.kind 3 c.if-l-eq-SITTING.false, ne_eqb c.args.l.kind 4 c.if-l-eq-PAID.false, ne_eqb c.args.l.kind 5 c.if-l-eq-UNCLAIMED.false) refl
