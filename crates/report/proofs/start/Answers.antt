-- `start` meets its contract.
use Rattle.paper.proofs.Sheets.{stand_in_good}
use Rattle.report.proofs.start.Goals as goal

pub new_table-table-requires : goal.new_table-table-requires
new_table-table-requires c = stand_in_good
