-- `royal_now` meets its contract. Assumes nothing.
use Rattle.royal.proofs.Laws.{now_not, now_five}
use Rattle.royal.proofs.royal_now.Goals as goal

pub returns-then-t-ne5 : goal.returns-then-t-ne5
returns-then-t-ne5 c = now_not _ c.if-t-ne5.true

pub returns : goal.returns
returns c = now_five _ c.if-t-ne5.false c.royal_seats.ensures
