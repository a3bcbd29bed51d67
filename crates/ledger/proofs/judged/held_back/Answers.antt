-- `held_back` meets its contract.
use Rattle.ledger.proofs.Telling.{held_yes, held_no}
use Rattle.ledger.proofs.judged.held_back.Goals as goal

pub returns-then-both : goal.returns-then-both
returns-then-both c = held_yes c.args.t c.args.full c.args.j c.either-behind.ensures c.both.ensures c.if-both.true c.requires.0 c.refused.ensures

pub returns : goal.returns
returns c = held_no c.args.t c.args.full c.args.j c.either-behind.ensures c.both.ensures c.if-both.false c.requires.1 c.requires.2
