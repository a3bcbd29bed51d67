-- `fair` meets its contract.
-- Assumes nothing.
use Rattle.try_pots.specs.MadeHands.{is_fair}
use Rattle.try_pots.proofs.hand.fair.Goals as goal

pub returns : goal.returns
unfolding is_fair
returns c = cc
