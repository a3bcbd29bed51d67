-- `Table::turn_after` meets its contract.
use Rattle.table.specs.Betting.{turn_after}
use Rattle.table.proofs.table.Table.turn_after.Goals as goal

pub returns : goal.returns
unfolding turn_after
returns c = rw (c.first_owing.ensures, c.chosen-kept.ensures, c.first_owing-none.ensures) at c.chosen.ensures
