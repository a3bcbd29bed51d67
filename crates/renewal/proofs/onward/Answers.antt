-- `onward` meets its contract: at an LF, and at another byte.
use Rattle.renewal.proofs.Steps.{onward_lf, onward_in}
use Rattle.renewal.proofs.onward.Goals as goal

pub returns-then-b-eq10 : goal.returns-then-b-eq10
returns-then-b-eq10 c = onward_lf c.args.n c.args.b c.if-b-eq10.true

pub returns : goal.returns
returns c = onward_in c.args.n c.args.b c.requires c.if-b-eq10.false
