-- `close` meets its contract: a bad sheet, nothing kept, a block that is not whole, and a sheet that is not whole.
use Rattle.seen.proofs.Feeds.{close_shut, close_none, close_block, close_sheet}
use Rattle.seen.proofs.feed.close.Goals as goal

pub returns-then-s : goal.returns-then-s
returns-then-s c = (close_shut c.args.s c.args.buf.now c.if-s.true, c.requires.0)

pub returns-then-e-eq0 : goal.returns-then-e-eq0
returns-then-e-eq0 c = (close_none c.args.s c.args.buf.now c.if-s.false c.if-s-2.true c.if-e-eq0.true, c.requires.0)

pub returns-then-s-2 : goal.returns-then-s-2
returns-then-s-2 c = (close_block c.args.s c.args.buf.now c.if-s.false c.if-s-2.true c.if-e-eq0.false c.after_block.ensures.0, c.after_block.ensures.1)

pub returns : goal.returns
returns c = (close_sheet c.args.s c.args.buf.now c.if-s.false c.if-s-2.false c.bad_sheet.ensures.0, c.bad_sheet.ensures.1)
