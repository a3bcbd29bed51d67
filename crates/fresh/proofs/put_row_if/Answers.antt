-- `put_row_if` meets its contract.
use Rattle.fresh.proofs.Steps.{rowed_yes, rowed_no}
use Rattle.fresh.proofs.put_row_if.Goals as goal

pub returns-then-hand : goal.returns-then-hand
returns-then-hand c = let r = rowed_yes c.args.hand c.args.hands c.args.n c.args.cs c.args.index.now c.if-hand.true c.stacks_of.ensures c.put_row.ensures in record { hands = r.0; index = r.1 }

pub returns : goal.returns
returns c = let r = rowed_no c.args.hand c.args.hands c.args.n c.args.cs c.args.index.now c.if-hand.false in record { hands = r.0; index = r.1 }
