-- `take_sheet` meets its contract.
use Rattle.desk.proofs.Opened.{opened_is}
use mathlib.Core.Path.{sym, ◌∙◌}
use Rattle.report.proofs.take_sheet.Goals as goal

pub new_table-requires : goal.new_table-requires
new_table-requires c = opened_is c.args.block.now _ (sym c.read_lone_sheet.ensures ∙ c.in-Ok.is)
