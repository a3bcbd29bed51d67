-- `Table::settle_code` meets its contract: what refuses first. Assumes nothing.
use borrow.Author.Rules.{rules}
use mathlib.Core.Path.{◌≡◌}
use Rattle.std.specs.Prelude.{Err}
use Rattle.table.proofs.Refused.{stops, goes}
use Rattle.table.specs.Betting.{live_hands}
use Rattle.table.specs.Settle.{settle_code}
use Rattle.table.proofs.table.Table.settle_code.Goals as goal

pub returns-in_err-refuse : goal.returns-in_err-refuse
unfolding settle_code live_hands
returns-in_err-refuse c =
    let e : c.from_residual.result ≡ Err c.in_err-refuse.field-0.0 = search rules in
    stops _ _ _ _ e (rw (c.both-now.ensures, c.either.ensures, c.both.ensures, c.nobody_owes-none.ensures, c.shows-k.ensures.0) at c.in_err-refuse.ensures)

pub returns : goal.returns
unfolding settle_code live_hands
returns c = goes _ _ _ (rw (c.both-now.ensures, c.either.ensures, c.both.ensures, c.nobody_owes-none.ensures, c.shows-k.ensures.0) at c.in_ok-refuse.ensures) (rw (c.both-2.ensures, c.shows-k.ensures.0, c.shows-k.ensures.1) at c.refuse-2.ensures)
