-- `after_lines` meets its contract, by its test.
use Rattle.seen.proofs.Feeds.{lines_block, lines_sheet}
use Rattle.seen.proofs.feed.after_lines.Goals as goal

pub returns-then-s : goal.returns-then-s
returns-then-s c = let s = c in
    (lines_block s.args.s s.args.block.now c.if-s.true c.after_block.ensures.0, c.after_block.ensures.1)

pub returns : goal.returns
returns c = let s = c in
    (lines_sheet s.args.s s.args.block.now c.if-s.false c.after_sheet.ensures.0, c.after_sheet.ensures.1)
