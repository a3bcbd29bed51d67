-- `Table::lift_after` meets its contract.
use Rattle.table.proofs.table.Table.lift_after.Goals as goal

pub returns : goal.returns
returns c = rw (c.is_full_lift.ensures, c.short_of-rise.ensures) at c.chosen.ensures
