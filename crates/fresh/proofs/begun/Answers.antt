-- `begun` meets its contract.
use mathlib.Core.Bool.{true}
use Rattle.table.specs.declared.table.Table.{Table}
use mathlib.Core.Path.{ap}
use Rattle.fresh.proofs.begun.Goals as goal

pub returns : goal.returns
returns c = (ap (λ (u : Table). record { table = u; ok = true }) c.new_table-t.ensures.0, c.new_table-t.ensures.1)
