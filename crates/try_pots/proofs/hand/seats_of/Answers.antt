-- `seats_of` meets its contract: never above ten.
-- Assumes nothing.
use Rattle.try_pots.proofs.Made.{seats_most}
use Rattle.try_pots.specs.MadeHands.{seats_of}
use Rattle.try_pots.proofs.hand.seats_of.Goals as goal

pub returns : goal.returns
unfolding seats_of
returns c = (cc, rw (c.chosen.ensures, c.both.ensures, c.both-room.ensures) (seats_most c.number_at-n.result c.args.count))
