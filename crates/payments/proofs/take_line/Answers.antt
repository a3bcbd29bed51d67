-- `payments::take_line` meets its contract: one line more, and what holds at every line is kept. Assumes nothing.
use Rattle.teller.proofs.Soundness.{sound-tray}
use Rattle.payments.proofs.Keeps.{sound_proposal, sound_answers}
use Rattle.payments.specs.Answering.{heard_line, tray_answer}
use Rattle.teller.specs.Keeping.{Sound}
use borrow.Author.Tests.{eq-eqb, ne_eqb}
use native.Mathlib.Omega.{arith}
use mathlib.Core.Path.{refl, sym, subst}
use Rattle.payments.proofs.take_line.Goals as goal

pub proposal_line-requires : goal.proposal_line-requires
proposal_line-requires c = c.requires

pub returns-then-s-eq-PROPOSAL_DUE : goal.returns-then-s-eq-PROPOSAL_DUE
unfolding heard_line
returns-then-s-eq-PROPOSAL_DUE c = let d = c.proposal_line.ensures in
    record { does = rw (eq-eqb c.args.s.due 4 c.if-s-eq-PROPOSAL_DUE.true) d; sound = subst Sound (sym d.teller) (sound_proposal c.args.l c.requires.1 c.args.s c.args.gives.now c.requires.0) }

pub answers_line-requires : goal.answers_line-requires
answers_line-requires c = (c.requires.0, c.requires.1, c.requires.2, omega (arith, c.requires.3))

pub returns-then-s-eq-ANSWERS_DUE : goal.returns-then-s-eq-ANSWERS_DUE
unfolding heard_line
returns-then-s-eq-ANSWERS_DUE c = let d = c.answers_line.ensures in
    record { does = rw (ne_eqb c.args.s.due 4 c.if-s-eq-PROPOSAL_DUE.false, eq-eqb c.args.s.due 3 c.if-s-eq-ANSWERS_DUE.true) (record { teller = d.teller; lent = d.lent; wrote = d.wrote; most = omega (arith, d.most) }); sound = subst Sound (sym d.teller) (sound_answers c.args.l c.requires.1 c.args.check c.args.s c.args.gives.now c.requires.0) }

pub returns-then-s-eq-FAULT : goal.returns-then-s-eq-FAULT
unfolding heard_line
returns-then-s-eq-FAULT c = record { does = rw (ne_eqb c.args.s.due 4 c.if-s-eq-PROPOSAL_DUE.false, ne_eqb c.args.s.due 3 c.if-s-eq-ANSWERS_DUE.false, eq-eqb c.args.s.due 5 c.if-s-eq-FAULT.true) (record { teller = refl; lent = refl; wrote = record { count = refl; sheet = refl }; most = omega arith }); sound = c.requires.0 }

pub tray_answer-requires : goal.tray_answer-requires
tray_answer-requires c = omega (arith, c.requires.3)

pub returns : goal.returns
unfolding heard_line tray_answer
returns c = let d = c.tray_answer.ensures in
    record { does = rw (ne_eqb c.args.s.due 4 c.if-s-eq-PROPOSAL_DUE.false, ne_eqb c.args.s.due 3 c.if-s-eq-ANSWERS_DUE.false, ne_eqb c.args.s.due 5 c.if-s-eq-FAULT.false) (record { teller = d.teller; lent = d.lent; wrote = d.wrote; most = omega (arith, d.most) }); sound = subst Sound (sym d.teller) (sound-tray c.args.s c.requires.0 c.args.l c.requires.1) }
