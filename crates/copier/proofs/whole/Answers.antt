-- `whole` meets its contract: a block, or the sheet.
use Rattle.copier.proofs.Steps.{gave_as}
use Rattle.copier.proofs.whole.Goals as goal

pub returns-then-opened : goal.returns-then-opened
returns-then-opened c = let w = c.whole_block.ensures in record { gave = gave_as c.args.s c.args.count c.args.block.now c.if-opened.true w.gave; held = w.held }

pub returns : goal.returns
returns c = let w = c.whole_sheet.ensures in record { gave = gave_as c.args.s c.args.count c.args.block.now c.if-opened.false w.gave; held = w.held }
