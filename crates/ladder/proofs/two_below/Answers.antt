-- `ladder::two_below` meets its contract. Assumes nothing.
use native.Mathlib.Omega.{arith}
use Rattle.ladder.specs.Reckoned.{two_below}
use Rattle.ladder.proofs.two_below.Goals as goal

pub returns : goal.returns
unfolding two_below
returns c = record { is = cc; small = omega arith }
