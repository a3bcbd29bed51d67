-- `accept` meets its contract: the counts are lowered exactly where the proposal is accepted.
-- Assumes nothing.
use Rattle.std.proofs.Common.{◌≡◌, Err, refl, sym, ap, ◌∙◌, arith, rules}
use Rattle.tray.specs.Proposal.{code_of}
use Rattle.tray.proofs.Within.{within}
use Rattle.tray.proofs.Judging.{tests_of, after_0, after_other, refused_code}
use Rattle.tray.proofs.accept.Goals as goal

pub returns-in_err-check-clause-rows : goal.returns-in_err-check-clause-rows
returns-in_err-check-clause-rows c =
    let e : c.from_residual.result ≡ Err c.in_err-check.field-0.0 = search rules in
    after_other (code_of c.from_residual.result) _ c.args.p.now c.args.counts.now (λ z. refused_code c.in_err-check.field-0.0 (sym (ap code_of e) ∙ z))

pub lower-requires : goal.lower-requires
lower-requires c =
    let h = within c.args.worths.now c.args.counts.now _ _ (tests_of c.args.worths.now c.args.counts.now c.args.paid.now c.args.p.now (sym c.in_ok-check.ensures)).0 in
    (omega (arith, h.rows, h.same), h.few)

pub returns-clause-rows : goal.returns-clause-rows
returns-clause-rows c = c.lower.ensures ∙ after_0 0 _ c.args.p.now c.args.counts.now refl
