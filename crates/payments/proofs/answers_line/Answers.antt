-- `payments::answers_line` meets its contract: a line where answers are due. Assumes nothing.
use Rattle.payments.proofs.Same.{does_as}
use Rattle.payments.specs.Answering.{answers_line}
use Rattle.payments.specs.Payments.{paid_out}
use Rattle.teller.proofs.Soundness.{sound-answer}
use Rattle.teller.specs.Keeping.{Sound}
use Rattle.teller.specs.declared.state.Teller.{Teller}
use Rattle.laws.specs.Tests.{both}
use lib.Dec.{eqb}
use native.Mathlib.Omega.{arith}
use mathlib.Core.Bool.{not}
use mathlib.Core.Path.{refl, sym, ap, ◌∙◌, subst}
use Rattle.payments.proofs.answers_line.Goals as goal

pub pay_out-requires : goal.pay_out-requires
pay_out-requires c = (subst Sound (sym c.answer_line-t.ensures) (sound-answer c.args.s c.requires.0 c.args.l c.requires.1), c.requires.2, c.requires.3)

pub returns-then-both : goal.returns-then-both
unfolding answers_line
returns-then-both c = let t = ap (λ (u : Teller). both (not c.args.check) (eqb u.due 4)) (sym c.answer_line-t.ensures) ∙ sym c.both.ensures ∙ c.if-both.true in
    rw t (does_as (ap (λ (u : Teller). paid_out u c.args.gives.now) c.answer_line-t.ensures) c.pay_out.ensures)

pub returns : goal.returns
unfolding answers_line
returns c = let t = ap (λ (u : Teller). both (not c.args.check) (eqb u.due 4)) (sym c.answer_line-t.ensures) ∙ sym c.both.ensures ∙ c.if-both.false in
    rw t (record { teller = c.answer_line-t.ensures; lent = refl; wrote = record { count = refl; sheet = refl }; most = omega arith })
