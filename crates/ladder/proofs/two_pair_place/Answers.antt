-- `ladder::two_pair_place` meets its contract. Assumes nothing.
use Rattle.ladder.specs.Reckoned.{two_pair_place}
use Rattle.ladder.proofs.two_pair_place.Goals as goal

pub returns : goal.returns
unfolding two_pair_place
returns c = cc
