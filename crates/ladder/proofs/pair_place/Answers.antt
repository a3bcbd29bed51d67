-- `ladder::pair_place` meets its contract. Assumes nothing.
use Rattle.ladder.specs.Reckoned.{pair_place}
use Rattle.ladder.proofs.pair_place.Goals as goal

pub returns : goal.returns
unfolding pair_place
returns c = cc
