-- `Table::sit_code` meets its contract: what refuses first. Assumes nothing.
use borrow.Author.Rules.{rules}
use mathlib.Core.Path.{◌≡◌}
use Rattle.std.specs.Prelude.{Err}
use Rattle.table.proofs.Refused.{stops, goes}
use Rattle.table.specs.Sittings.{sit_code}
use Rattle.table.proofs.table.Table.sit_code.Goals as goal

pub returns-in_err-refuse : goal.returns-in_err-refuse
unfolding sit_code
returns-in_err-refuse c =
    let e : c.from_residual.result ≡ Err c.in_err-refuse.field-0.0 = search rules in
    stops _ _ _ _ e (rw c.requires.1 at c.in_err-refuse.ensures)

pub returns : goal.returns
unfolding sit_code
returns c = goes _ _ _ (rw c.requires.1 at c.in_ok-refuse.ensures) (rw (c.too_many-over.ensures, c.chips.ensures) at c.refuse-2.ensures)
