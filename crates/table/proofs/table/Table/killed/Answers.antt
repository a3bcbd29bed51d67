-- `Table::killed` meets its contract.
use Rattle.table.specs.Betting.{dead_to}
use Rattle.chairs.proofs.Above.{seats_put}
use Rattle.table.proofs.table.Table.killed.Goals as goal

pub turn_after-next-requires : goal.turn_after-next-requires
turn_after-next-requires c =
    let t = c.args.self in
    let h = c.requires in
    rw c.with_chair-u.ensures (seats_put t.sheet.seats t.chairs c.args.s _ h.1 h.0, h.1)

pub returns : goal.returns
unfolding dead_to
returns c = rw (c.turn_after-next.ensures, c.with_chair-u.ensures, c.folded-c.ensures, c.seat_of.ensures) at c.with_turn.ensures
