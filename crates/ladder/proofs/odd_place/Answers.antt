-- `ladder::odd_place` meets its contract. Assumes nothing.
use Rattle.ladder.specs.Reckoned.{odd_place}
use Rattle.ladder.proofs.odd_place.Goals as goal

pub returns : goal.returns
unfolding odd_place
returns c = cc
