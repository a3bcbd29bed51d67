-- `ladder::row_place` meets its contract. Assumes nothing.
use Rattle.ladder.specs.Reckoned.{row_place}
use Rattle.ladder.proofs.row_place.Goals as goal

pub returns : goal.returns
unfolding row_place
returns c = cc
