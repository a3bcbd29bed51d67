-- `new_table` meets its contract.
use Rattle.table.proofs.Standing.{sound_fresh}
use Rattle.table.proofs.take.new_table.Goals as goal

pub returns : goal.returns
returns c =
    let h = c.requires in
    (rw (c.no_chair-c.ensures, c.no_board.ensures), rw (c.no_chair-c.ensures, c.no_board.ensures) (sound_fresh _ h))
