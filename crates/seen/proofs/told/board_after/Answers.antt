-- `board_after` meets its contract, by its test.
use Rattle.seen.proofs.Laws.{board_opened, board_old}
use Rattle.seen.proofs.told.board_after.Goals as goal

pub returns-then-opened : goal.returns-then-opened
returns-then-opened c = board_opened c.args.old c.args.now c.args.opened c.if-opened.true

pub returns : goal.returns
returns c = board_old c.args.old c.args.now c.args.opened c.if-opened.false
