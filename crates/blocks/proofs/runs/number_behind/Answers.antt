-- `number_behind` meets its contract: one digit, two, or as many as there are.
use Rattle.blocks.proofs.Fronts.{one_behind, two_behind, more_behind}
use Rattle.blocks.proofs.runs.number_behind.Goals as goal

pub returns-then-log-from-eq10 : goal.returns-then-log-from-eq10
returns-then-log-from-eq10 c = one_behind c.args.log.now c.args.from c.requires c.one_digit.result c.if-log-from-eq10.true c.digit-d.ensures c.one_digit.ensures

pub returns-then-log-from-eq10-2 : goal.returns-then-log-from-eq10-2
returns-then-log-from-eq10-2 c = two_behind c.args.log.now c.args.from c.requires c.two_digits.result c.if-log-from-eq10-2.true c.digit-d.ensures c.digit.ensures c.two_digits.ensures

pub returns : goal.returns
returns c = more_behind c.args.log.now c.args.from c.requires c.number_ended.result c.number_ended.ensures
