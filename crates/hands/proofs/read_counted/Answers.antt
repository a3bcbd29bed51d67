-- `hands::read_counted` meets its contract: the second reader's answer is the first's (counts/proofs/Agree). Assumes nothing.
use Rattle.hands.proofs.Ended.{counted_as, not_seven}
use Rattle.hands.proofs.read_counted.Goals as goal

pub returns-then-cards-ne7 : goal.returns-then-cards-ne7
returns-then-cards-ne7 c = not_seven c.args.cards.now c.if-cards-ne7.true

pub returns : goal.returns
returns c = counted_as c.args.cards.now _ c.if-cards-ne7.false c.counted.ensures
