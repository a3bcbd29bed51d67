-- `payments::proposal_line` meets its contract: a line where a proposal is due. Assumes nothing.
use Rattle.payments.proofs.Same.{does_as}
use Rattle.payments.proofs.Keeps.{sound_checked}
use Rattle.payments.specs.Answering.{answers_line, proposal_line}
use Rattle.teller.specs.Keeping.{Sound}
use Rattle.teller.specs.declared.state.Teller.{Teller}
use Rattle.writing.proofs.Sheets.{then}
use borrow.Author.Tests.{eq-eqb, ne_eqb}
use native.Mathlib.Omega.{arith}
use mathlib.Core.Bool.{true}
use mathlib.Core.Path.{refl, sym, ap, subst}
use Rattle.payments.proofs.proposal_line.Goals as goal

pub returns-then-l-eq-GIVE : goal.returns-then-l-eq-GIVE
unfolding proposal_line
returns-then-l-eq-GIVE c = rw (eq-eqb c.args.l.kind 6 c.if-l-eq-GIVE.true) (record { teller = c.give_line-t.ensures; lent = c.put.ensures; wrote = record { count = refl; sheet = refl }; most = omega arith })

pub check_out-a-requires : goal.check_out-a-requires
check_out-a-requires c = (c.requires.0, c.requires.2, omega (arith, c.requires.3))

pub answers_line-b-requires : goal.answers_line-b-requires
answers_line-b-requires c = (subst Sound (sym c.check_out-a.ensures.teller) (sound_checked c.args.s c.requires.0 c.args.gives.now), c.requires.1, c.requires.2, omega (arith, c.requires.3, c.check_out-a.ensures.most))

pub returns : goal.returns
unfolding proposal_line
returns c = let e = c.check_out-a.ensures.teller in
    let a = does_as (ap (λ (u : Teller). answers_line true u c.args.l c.args.gives.now) e) c.answers_line-b.ensures in
    rw (ne_eqb c.args.l.kind 6 c.if-l-eq-GIVE.false) (record { teller = a.teller; lent = a.lent; wrote = then c.check_out-a.ensures.wrote a.wrote; most = omega (arith, c.check_out-a.ensures.most, a.most) })
