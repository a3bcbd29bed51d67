-- `ladder::beside_place` meets its contract. Assumes nothing.
use Rattle.ladder.specs.Reckoned.{beside_place}
use Rattle.ladder.proofs.beside_place.Goals as goal

pub returns : goal.returns
unfolding beside_place
returns c = cc
