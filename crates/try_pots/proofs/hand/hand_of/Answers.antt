-- `hand_of` meets its contract: the hand that the line's numbers say.
-- Assumes nothing.
use Rattle.try_pots.specs.MadeHands.{hand_of}
use Rattle.try_pots.proofs.hand.hand_of.Goals as goal

pub returns : goal.returns
unfolding hand_of
returns c = cc
