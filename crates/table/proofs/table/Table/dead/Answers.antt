-- `Table::dead` meets its contract.
use Rattle.table.proofs.Refused.{err_number, none_number}
use Rattle.table.proofs.Arms.{refused_by, applied_by}
use Rattle.table.proofs.Standing.{seat_within}
use Rattle.paper.specs.declared.Entry.TheVariants.{Dead}
use mathlib.Core.Path.{sym, ◌∙◌}
use Rattle.table.proofs.table.Table.dead.Goals as goal

pub returns-then-is_err : goal.returns-then-is_err
returns-then-is_err c = refused_by c.args.self (Dead c.args.s) _ _ c.dead_code-k.ensures (err_number c.dead_code-k.result (sym c.is_err.ensures.value ∙ c.if-is_err.true)) c.judged.ensures

pub killed-requires : goal.killed-requires
killed-requires c = (c.requires.0.standing.seated, seat_within c.args.self.sheet c.args.s c.requires.1)

pub returns : goal.returns
returns c = applied_by c.args.self (Dead c.args.s) _ _ c.dead_code-k.ensures (none_number c.dead_code-k.result (sym c.is_err.ensures.value ∙ c.if-is_err.false)) (c.judged-2.ensures.0 ∙ none_number c.dead_code-k.result (sym c.is_err.ensures.value ∙ c.if-is_err.false)) (c.judged-2.ensures.1 ∙ c.killed.ensures) c.judged-2.ensures.2
