-- `ladder::three_below` meets its contract. Assumes nothing.
use native.Mathlib.Omega.{arith}
use Rattle.ladder.specs.Reckoned.{three_below}
use Rattle.ladder.proofs.three_below.Goals as goal

pub returns : goal.returns
unfolding three_below
returns c = record { is = cc; small = omega arith }
