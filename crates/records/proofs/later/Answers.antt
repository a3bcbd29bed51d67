-- `later` meets its contract.
use Rattle.records.proofs.Found.{later_hand, later_other}
use Rattle.records.proofs.later.Goals as goal

pub returns-then-r-eq2 : goal.returns-then-r-eq2
returns-then-r-eq2 c = later_hand c.args.last c.args.next c.args.r c.if-r-eq2.true

pub returns-else-r-eq2 : goal.returns-else-r-eq2
returns-else-r-eq2 c = later_other c.args.last c.args.next c.args.r c.if-r-eq2.false
