-- `Table::board_code` meets its contract: what refuses first. Assumes nothing.
use borrow.Author.Rules.{rules}
use mathlib.Core.Path.{◌≡◌}
use Rattle.std.specs.Prelude.{Err}
use Rattle.table.proofs.Refused.{stops, goes}
use Rattle.table.specs.Betting.{live_hands}
use Rattle.table.specs.Dealing.{board_code, in_this_hand}
use Rattle.table.proofs.table.Table.board_code.Goals as goal

pub returns-in_err-refuse : goal.returns-in_err-refuse
unfolding board_code live_hands
returns-in_err-refuse c =
    let e : c.from_residual.result ≡ Err c.in_err-refuse.field-0.0 = search rules in
    stops _ _ _ _ e (rw (c.either-3.ensures, c.either-2.ensures, c.either.ensures, c.board_look-n.ensures.0, c.nobody_owes-owed.ensures) at c.in_err-refuse.ensures)

pub returns : goal.returns
unfolding board_code in_this_hand live_hands
returns c = goes _ _ _ (rw (c.either-3.ensures, c.either-2.ensures, c.either.ensures, c.board_look-n.ensures.0, c.nobody_owes-owed.ensures) at c.in_ok-refuse.ensures) (rw (c.either-old.ensures, c.lies.ensures, c.board_look-n.ensures.1) at c.refuse-2.ensures)
