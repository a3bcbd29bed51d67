-- `Table::nobody_owes` meets its contract.
use Rattle.table.proofs.Reached.{turn_none}
use Rattle.table.proofs.table.Table.nobody_owes.Goals as goal

pub returns : goal.returns
returns c = turn_none _ c.requires
