-- `is_sheet` meets its contract.
use Rattle.paper.specs.Paper.{is_sheet}
use Rattle.paper.proofs.is_sheet.Goals as goal

pub returns : goal.returns
unfolding is_sheet
returns c = cc
