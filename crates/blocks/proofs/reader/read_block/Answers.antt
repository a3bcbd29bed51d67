-- `read_block` meets its contract: five readings, each of what the one before left.
use Rattle.blocks.proofs.Blocks.{block_none, block_five}
use mathlib.Core.Path.{sym}
use Rattle.blocks.proofs.reader.read_block.Goals as goal

pub returns-then-log-eq0 : goal.returns-then-log-eq0
returns-then-log-eq0 c = sym (block_none c.args.log.now c.if-log-eq0.true)

pub returns : goal.returns
returns c = block_five c.args.log.now c.if-log-eq0.false c.number_of-n.ensures c.behind-second.ensures c.line_kind-kind.ensures c.behind-third.ensures c.number_of-seat.ensures c.behind-fourth.ensures c.number_of-a.ensures c.behind-fifth.ensures c.number_of-b.ensures c.block_from.ensures
