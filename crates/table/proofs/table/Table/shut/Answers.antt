-- `Table::shut` meets its contract.
use mathlib.Core.Path.{ap}
use Rattle.table.proofs.Laws.{room_at}
use Rattle.table.proofs.Closing.{paid_above}
use Rattle.table.specs.declared.table.Payout.{Payout}
use Rattle.table.specs.Settle.{settled_to}
use Rattle.table.proofs.table.Table.shut.Goals as goal

pub close_all-ds-requires : goal.close_all-ds-requires
close_all-ds-requires c =
    let t = c.args.self in
    let h = c.requires in
    let e = ap (λ (p : Payout). p.paid) h.2 in
    (h.1.seated, λ i l. rw e (paid_above t h.1 i l), room_at t h.0 _ e)

pub returns : goal.returns
unfolding settled_to
returns c = rw (← c.requires.2, c.close_all-ds.ensures, c.no_board-board.ensures, c.closed_play-after.ensures)
