-- `start` meets its contract.
use Rattle.paper.proofs.Sheets.{stand_in_good}
use Rattle.couple.proofs.Tables.{started}
use Rattle.couple.proofs.start.Goals as goal

pub new_table-t-requires : goal.new_table-t-requires
new_table-t-requires c = stand_in_good

pub returns : goal.returns
returns c = started c.new_table-t.ensures
