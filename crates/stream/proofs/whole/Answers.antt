-- `whole` meets its contract: a block, or the sheet.
use lib.ListN.{length}
use Rattle.stream.proofs.Steps.{gave_as}
use Rattle.stream.proofs.whole.Goals as goal

pub returns-then-opened : goal.returns-then-opened
returns-then-opened c =
    let w = c.whole_block in
    record { gave = gave_as (length c.args.out.now) c.args.block.now c.if-opened.true w.ensures.gave; held = w.ensures.held }

pub returns : goal.returns
returns c =
    let w = c.whole_sheet in
    record { gave = gave_as (length c.args.out.now) c.args.block.now c.if-opened.false w.ensures.gave; held = w.ensures.held }
