-- `Table::act_by` meets its contract.
use mathlib.Core.Path.{refl}
use Rattle.table.proofs.table.Table.act_by.Goals as goal

pub returns-then-ok : goal.returns-then-ok
returns-then-ok c = rw c.if-ok.true c.act_chair.ensures

pub returns-else-ok : goal.returns-else-ok
returns-else-ok c = rw c.if-ok.false refl
