-- `opened` meets its contract.
use Rattle.table.specs.declared.table.Table.{Table}
use Rattle.paper.specs.Paper.{is_sheet}
use native.Mathlib.Omega.{arith}
use mathlib.Core.Path.{ap, ◌∙◌}
use Rattle.ledger.proofs.opened.Goals as goal

pub returns : goal.returns
returns c = (ap (λ (u : Table). record { table = u; hands = 0 }) c.new_table-t.ensures.0, record { sound = c.new_table-t.ensures.1; sheet = ap (λ (u : Table). is_sheet u.sheet) c.new_table-t.ensures.0 ∙ c.requires; hands = omega arith })
