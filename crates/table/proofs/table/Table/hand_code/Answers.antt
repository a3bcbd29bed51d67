-- `Table::hand_code` meets its contract: what refuses first. Assumes nothing.
use borrow.Author.Rules.{rules}
use mathlib.Core.Path.{◌≡◌}
use Rattle.std.specs.Prelude.{Err}
use Rattle.table.proofs.Refused.{stops, goes}
use Rattle.table.specs.Opening.{next_dealt_in, is_puck, hand_code}
use Rattle.table.proofs.table.Table.hand_code.Goals as goal

pub chip_seats-k-requires : goal.chip_seats-k-requires
chip_seats-k-requires c = (c.requires.seated, c.requires.puck)

pub returns-in_err-refuse : goal.returns-in_err-refuse
unfolding hand_code is_puck next_dealt_in
returns-in_err-refuse c =
    let e : c.from_residual.result ≡ Err c.in_err-refuse.field-0.0 = search rules in
    stops _ _ _ _ e (rw (c.either-2.ensures, c.chip_seats-k.ensures.0) at c.in_err-refuse.ensures)

pub returns : goal.returns
unfolding hand_code is_puck next_dealt_in
returns c = goes _ _ _ (rw (c.either-2.ensures, c.chip_seats-k.ensures.0) at c.in_ok-refuse.ensures) (rw (c.both-ok.ensures, c.either.ensures, c.chip_seats-k.ensures.1, c.seat_of-c.ensures) at c.refuse-2.ensures)
