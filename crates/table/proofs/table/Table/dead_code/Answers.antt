-- `Table::dead_code` meets its contract: what refuses first. Assumes nothing.
use borrow.Author.Rules.{rules}
use mathlib.Core.Path.{◌≡◌}
use Rattle.std.specs.Prelude.{Err}
use Rattle.table.proofs.Refused.{stops, goes}
use Rattle.table.specs.Betting.{dead_code}
use Rattle.table.proofs.table.Table.dead_code.Goals as goal

pub returns-in_err-refuse : goal.returns-in_err-refuse
unfolding dead_code
returns-in_err-refuse c =
    let e : c.from_residual.result ≡ Err c.in_err-refuse.field-0.0 = search rules in
    stops _ _ _ _ e (rw (c.either.ensures, c.lives-few.ensures) at c.in_err-refuse.ensures)

pub returns : goal.returns
unfolding dead_code
returns c = goes _ _ _ (rw (c.either.ensures, c.lives-few.ensures) at c.in_ok-refuse.ensures) (rw c.seat_of.ensures at c.refuse-2.ensures)
