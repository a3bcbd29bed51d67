-- `stands_after` meets its contract.
use Rattle.desk.proofs.SamePots.{now_shows}
use Rattle.desk.proofs.quiet.stands_after.Goals as goal

pub returns-then-same : goal.returns-then-same
returns-then-same c = c.requires.1 c.if-same.true

pub returns : goal.returns
returns c = now_shows c.args.t c.stands_now.ensures
