-- `ladder::rows_below` meets its contract. Assumes nothing.
use Rattle.ladder.specs.Reckoned.{rows_below}
use Rattle.ladder.proofs.rows_below.Goals as goal

pub returns : goal.returns
unfolding rows_below
returns c = cc
