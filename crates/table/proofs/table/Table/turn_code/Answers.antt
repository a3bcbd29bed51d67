-- `Table::turn_code` meets its contract: what refuses first. Assumes nothing.
use borrow.Author.Rules.{rules}
use mathlib.Core.Path.{◌≡◌}
use Rattle.std.specs.Prelude.{Err}
use Rattle.table.proofs.Refused.{stops, goes}
use Rattle.table.specs.Betting.{turn_code}
use Rattle.table.proofs.table.Table.turn_code.Goals as goal

pub returns-in_err-refuse : goal.returns-in_err-refuse
unfolding turn_code
returns-in_err-refuse c =
    let e : c.from_residual.result ≡ Err c.in_err-refuse.field-0.0 = search rules in
    stops _ _ _ _ e (rw c.nobody_owes.ensures at c.in_err-refuse.ensures)

pub returns-in_err-refuse-2 : goal.returns-in_err-refuse-2
unfolding turn_code
returns-in_err-refuse-2 c =
    let e : c.from_residual-in_err-refuse-2.result ≡ Err c.in_err-refuse-2.field-0.0 = search rules in
    goes _ _ _ (rw c.nobody_owes.ensures at c.in_ok-refuse.ensures) (stops _ _ _ _ e (rw c.requires.1 at c.in_err-refuse-2.ensures))

pub returns : goal.returns
unfolding turn_code
returns c = goes _ _ _ (rw c.nobody_owes.ensures at c.in_ok-refuse.ensures) (goes _ _ _ (rw c.requires.1 at c.in_ok-refuse-2.ensures) c.refuse-3.ensures)
