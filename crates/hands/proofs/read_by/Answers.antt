-- `hands::read_by` meets its contract. Assumes nothing.
use Rattle.hands.proofs.Ended.{read_five, read_seven}
use Rattle.hands.proofs.read_by.Goals as goal

pub returns-then-w : goal.returns-then-w
returns-then-w c = read_five _ c.args.w.five c.args.w.deck c.if-w.true c.read_five.ensures

pub returns : goal.returns
returns c = read_seven _ c.args.w.five c.args.w.deck c.if-w.false c.read_cards.ensures
