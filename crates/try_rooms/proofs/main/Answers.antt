-- `main` meets its contract.
use Rattle.desk.proofs.Opened.{opened_is}
use mathlib.Core.Path.{sym, ◌∙◌}
use Rattle.try_rooms.proofs.main.Goals as goal

pub new_table-requires : goal.new_table-requires
new_table-requires c = opened_is _ _ (sym c.read_lone_sheet.ensures ∙ c.in-Ok.is)
