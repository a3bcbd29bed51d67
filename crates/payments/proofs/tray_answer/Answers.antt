-- `payments::tray_answer` meets its contract: a line where the tray is due. Assumes nothing.
use Rattle.payments.specs.Answering.{tray_answer}
use Rattle.teller.specs.Keeping.{tray_line}
use Rattle.teller.specs.declared.state.Teller.{Teller}
use borrow.Author.Tests.{eq-eqb, ne_eqb}
use native.Mathlib.Omega.{arith}
use mathlib.Core.Path.{◌≡◌, refl, sym, ap, ◌∙◌}
use Rattle.payments.proofs.tray_answer.Goals as goal

pub returns-then-t-eq-FAULT : goal.returns-then-t-eq-FAULT
unfolding tray_answer
returns-then-t-eq-FAULT c = let t : (tray_line c.args.s c.args.l).due ≡ 5 = ap (λ (u : Teller). u.due) (sym c.tray_line-t.ensures) ∙ c.if-t-eq-FAULT.true in
    record { teller = c.tray_line-t.ensures; lent = refl; wrote = rw (eq-eqb (tray_line c.args.s c.args.l).due 5 t) c.put_refusal.ensures.0; most = c.put_refusal.ensures.1 }

pub returns : goal.returns
unfolding tray_answer
returns c = let n : (tray_line c.args.s c.args.l).due ≡ 5 → ⊥ = λ e. c.if-t-eq-FAULT.false (ap (λ (u : Teller). u.due) c.tray_line-t.ensures ∙ e) in
    record { teller = c.tray_line-t.ensures; lent = refl; wrote = rw (ne_eqb (tray_line c.args.s c.args.l).due 5 n) (record { count = refl; sheet = refl }); most = omega arith }
