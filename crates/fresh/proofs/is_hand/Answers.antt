-- `is_hand` meets its contract.
use Rattle.fresh.specs.Reading.{is_hand}
use Rattle.fresh.proofs.is_hand.Goals as goal

pub returns : goal.returns
unfolding is_hand
returns c = cc
