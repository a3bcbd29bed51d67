-- `Table::wager_code` meets its contract: what refuses first. Assumes nothing.
use borrow.Author.Rules.{rules}
use mathlib.Core.Path.{◌≡◌}
use Rattle.std.specs.Prelude.{Err}
use Rattle.table.proofs.Refused.{stops, goes}
use Rattle.table.specs.Betting.{wager_code}
use Rattle.table.proofs.table.Table.wager_code.Goals as goal

pub returns-in_err-turn_code : goal.returns-in_err-turn_code
unfolding wager_code
returns-in_err-turn_code c =
    let e : c.from_residual.result ≡ Err c.in_err-turn_code.field-0.0 = search rules in
    stops _ _ _ _ e c.in_err-turn_code.ensures

pub returns : goal.returns
unfolding wager_code
returns c = goes _ _ _ c.in_ok-turn_code.ensures (rw (c.may_wager.ensures, c.requires.1) at c.refuse.ensures)
