-- `Table::hand` meets its contract.
use Rattle.table.proofs.Refused.{err_number, none_number}
use Rattle.table.proofs.Arms.{refused_by, applied_by}
use Rattle.paper.specs.declared.Entry.TheVariants.{Hand}
use mathlib.Core.Path.{sym, ◌∙◌}
use Rattle.table.proofs.table.Table.hand.Goals as goal

pub returns-then-is_err : goal.returns-then-is_err
returns-then-is_err c = refused_by c.args.self (Hand c.args.s) _ _ c.hand_code-k.ensures (err_number c.hand_code-k.result (sym c.is_err.ensures.value ∙ c.if-is_err.true)) c.judged.ensures

pub opened-requires : goal.opened-requires
opened-requires c = (c.requires.0.payable.chips, c.requires.0.standing, c.requires.1, sym c.hand_code-k.ensures ∙ (none_number c.hand_code-k.result (sym c.is_err.ensures.value ∙ c.if-is_err.false)))

pub returns : goal.returns
returns c = applied_by c.args.self (Hand c.args.s) _ _ c.hand_code-k.ensures (none_number c.hand_code-k.result (sym c.is_err.ensures.value ∙ c.if-is_err.false)) (c.judged-2.ensures.0 ∙ none_number c.hand_code-k.result (sym c.is_err.ensures.value ∙ c.if-is_err.false)) (c.judged-2.ensures.1 ∙ c.opened.ensures) c.judged-2.ensures.2
