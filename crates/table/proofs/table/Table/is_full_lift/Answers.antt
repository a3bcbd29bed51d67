-- `Table::is_full_lift` meets its contract.
use Rattle.table.proofs.table.Table.is_full_lift.Goals as goal

pub returns : goal.returns
returns c = rw c.short_of.ensures
