-- `Table::with_chair` meets its contract.
use Rattle.table.proofs.table.Table.with_chair.Goals as goal

pub returns : goal.returns
returns c = rw c.put_chair-ds.ensures at c.with_chairs.ensures
