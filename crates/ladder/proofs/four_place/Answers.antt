-- `ladder::four_place` meets its contract. Assumes nothing.
use Rattle.ladder.specs.Reckoned.{four_place}
use Rattle.ladder.proofs.four_place.Goals as goal

pub returns : goal.returns
unfolding four_place
returns c = cc
