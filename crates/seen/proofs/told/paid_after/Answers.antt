-- `paid_after` meets its contract, by its tests.
use Rattle.seen.proofs.Laws.{paid_settled, paid_opened, paid_old}
use Rattle.seen.proofs.told.paid_after.Goals as goal

pub returns-then-paid : goal.returns-then-paid
returns-then-paid c = paid_settled c.args.old c.args.paid c.args.opened c.if-paid.true

pub returns-then-opened : goal.returns-then-opened
returns-then-opened c = paid_opened c.args.old c.args.paid c.args.opened c.if-paid.false c.if-opened.true c.no_payout.ensures

pub returns : goal.returns
returns c = paid_old c.args.old c.args.paid c.args.opened c.if-paid.false c.if-opened.false
