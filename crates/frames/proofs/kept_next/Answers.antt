-- `kept_next` meets its contract.
use Rattle.frames.proofs.Nexts.{kept_more, kept_last}
use Rattle.frames.proofs.kept_next.Goals as goal

pub returns-then-lines-wanted : goal.returns-then-lines-wanted
returns-then-lines-wanted c = kept_more c.args.due c.args.lines c.args.after c.wanted.ensures c.if-lines-wanted.true

pub returns : goal.returns
returns c = kept_last c.args.due c.args.lines c.args.after c.wanted.ensures c.if-lines-wanted.false
