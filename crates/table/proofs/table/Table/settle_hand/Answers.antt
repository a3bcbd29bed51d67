-- `Table::settle_hand` meets its contract.
use Rattle.table.proofs.Refused.{err_number, none_number}
use Rattle.table.proofs.Arms.{refused_by, applied_by}
use Rattle.paper.specs.declared.Entry.TheVariants.{Settle}
use mathlib.Core.Path.{refl, sym, ◌∙◌}
use Rattle.table.proofs.table.Table.settle_hand.Goals as goal

pub returns-then-is_err : goal.returns-then-is_err
returns-then-is_err c = refused_by c.args.self Settle _ _ c.settle_code-k.ensures (err_number c.settle_code-k.result (sym c.is_err.ensures.value ∙ c.if-is_err.true)) c.judged.ensures

pub returns : goal.returns
returns c = applied_by c.args.self Settle _ _ c.settle_code-k.ensures (none_number c.settle_code-k.result (sym c.is_err.ensures.value ∙ c.if-is_err.false)) refl c.shut-u.ensures c.payout-p.ensures
