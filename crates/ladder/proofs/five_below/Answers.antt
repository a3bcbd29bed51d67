-- `ladder::five_below` meets its contract. Assumes nothing.
use native.Mathlib.Omega.{arith}
use Rattle.ladder.specs.Reckoned.{five_below}
use Rattle.ladder.proofs.five_below.Goals as goal

pub returns : goal.returns
unfolding five_below
returns c = record { is = cc; small = omega arith }
