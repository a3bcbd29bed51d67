-- `take_lines` meets its contract: whole lines are a block, or the sheet, about which nothing is said. Assumes nothing.
use Rattle.book.proofs.Fronts.{none_written}
use Rattle.book.proofs.keeper.take_lines.Goals as goal

pub take_block-requires : goal.take_block-requires
take_block-requires c = (c.requires, c.read_block.ensures)

pub shape_of-log-then-k : goal.shape_of-log-then-k
shape_of-log-then-k c = c.log-1.given

pub shape_of-index-then-k : goal.shape_of-index-then-k
shape_of-index-then-k c = c.index-1.given

pub shape_of-out-then-k : goal.shape_of-out-then-k
shape_of-out-then-k c = c.out-1.given

pub returns-then-k : goal.returns-then-k
returns-then-k c = c.take_block.ensures

pub take_sheet-requires : goal.take_sheet-requires
take_sheet-requires c = c.requires

pub returns : goal.returns
returns c = (c.take_sheet.ensures.0, c.take_sheet.ensures.1, none_written c.take_sheet.ensures.2)
