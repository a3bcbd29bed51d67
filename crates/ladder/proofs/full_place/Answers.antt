-- `ladder::full_place` meets its contract. Assumes nothing.
use Rattle.ladder.specs.Reckoned.{full_place}
use Rattle.ladder.proofs.full_place.Goals as goal

pub returns : goal.returns
unfolding full_place
returns c = cc
