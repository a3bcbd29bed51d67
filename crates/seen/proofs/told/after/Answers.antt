-- `after` meets its contract, field by field.
use Rattle.seen.specs.Told.{told_after}
use Rattle.seen.proofs.told.after.Goals as goal

pub returns : goal.returns
unfolding told_after
returns c = rw (c.dead_after.ensures, c.said.ensures, c.paid_after.ensures, c.board_after.ensures)
