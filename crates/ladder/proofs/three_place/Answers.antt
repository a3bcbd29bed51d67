-- `ladder::three_place` meets its contract. Assumes nothing.
use Rattle.ladder.specs.Reckoned.{three_place}
use Rattle.ladder.proofs.three_place.Goals as goal

pub returns : goal.returns
unfolding three_place
returns c = cc
