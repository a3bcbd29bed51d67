-- `record_at` meets its contract.
use Rattle.records.proofs.Found.{absent, present}
use Rattle.records.proofs.record_at.Goals as goal

pub returns-then-left-lt-RECORD : goal.returns-then-left-lt-RECORD
returns-then-left-lt-RECORD c = absent c.args.log.now c.args.at c.left_of-left.ensures c.if-left-lt-RECORD.true

pub returns : goal.returns
returns c = present c.args.log.now c.args.at c.left_of-left.ensures c.if-left-lt-RECORD.false c.four-a.ensures
