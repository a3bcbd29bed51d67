-- `payments::close` meets its contract: the end of the input. Assumes nothing.
use Rattle.payments.proofs.Same.{wrote_as}
use Rattle.payments.proofs.Keeps.{sound_checked}
use Rattle.payments.specs.Answering.{end_text}
use Rattle.payments.specs.Payments.{checked, tray_text}
use Rattle.teller.specs.Keeping.{Sound}
use Rattle.teller.specs.declared.state.Teller.{Teller}
use Rattle.writing.proofs.Sheets.{then}
use borrow.Author.Tests.{eq-eqb, ne_eqb, lt-ltb, le-ltb}
use native.Mathlib.Omega.{arith}
use mathlib.Core.List.{◌++◌}
use mathlib.Core.Path.{refl, sym, ap, ◌∙◌, subst}
use Rattle.payments.proofs.close.Goals as goal

pub returns-then-ended : goal.returns-then-ended
unfolding end_text
returns-then-ended c = rw (sym c.ended.ensures ∙ c.if-ended.true) (record { count = refl; sheet = refl }, omega arith)

pub put_refusal-requires : goal.put_refusal-requires
put_refusal-requires c = omega (arith, c.requires.2)

pub returns-then-s-lt-ANSWERS_DUE : goal.returns-then-s-lt-ANSWERS_DUE
unfolding end_text
returns-then-s-lt-ANSWERS_DUE c = rw (sym c.ended.ensures ∙ c.if-ended.false, lt-ltb c.args.s.due 3 c.if-s-lt-ANSWERS_DUE.true) (c.put_refusal.ensures.0, omega (arith, c.put_refusal.ensures.1))

pub check_out-a-requires : goal.check_out-a-requires
check_out-a-requires c = (c.requires.0, c.requires.1, omega (arith, c.requires.2))

pub put_tray-requires : goal.put_tray-requires
put_tray-requires c = let h = subst Sound (sym c.check_out-a.ensures.teller) (sound_checked c.args.s c.requires.0 c.args.gives.now) in (h.few, h.row, omega (arith, c.requires.2, c.check_out-a.ensures.most))

pub returns-then-s-eq-PROPOSAL_DUE : goal.returns-then-s-eq-PROPOSAL_DUE
unfolding end_text
returns-then-s-eq-PROPOSAL_DUE c = let e = c.check_out-a.ensures.teller in
    rw (sym c.ended.ensures ∙ c.if-ended.false, le-ltb c.args.s.due 3 c.if-s-lt-ANSWERS_DUE.false, eq-eqb c.args.s.due 4 c.if-s-eq-PROPOSAL_DUE.true) (wrote_as (ap (λ (u : Teller). (checked c.args.s c.args.gives.now).text ++ tray_text u.tray) e) (then c.check_out-a.ensures.wrote c.put_tray.ensures.0), omega (arith, c.check_out-a.ensures.most, c.put_tray.ensures.1))

pub put_tray-requires-2 : goal.put_tray-requires-2
put_tray-requires-2 c = (c.requires.0.few, c.requires.0.row, omega (arith, c.requires.2))

pub returns : goal.returns
unfolding end_text
returns c = rw (sym c.ended.ensures ∙ c.if-ended.false, le-ltb c.args.s.due 3 c.if-s-lt-ANSWERS_DUE.false, ne_eqb c.args.s.due 4 c.if-s-eq-PROPOSAL_DUE.false) (c.put_tray-2.ensures.0, omega (arith, c.put_tray-2.ensures.1))
