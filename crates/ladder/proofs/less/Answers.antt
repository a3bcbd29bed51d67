-- `ladder::less` meets its contract. Assumes nothing.
use native.Mathlib.Omega.{arith}
use Rattle.ladder.specs.Reckoned.{less}
use Rattle.ladder.proofs.less.Goals as goal

pub returns : goal.returns
unfolding less
returns c = record { is = cc; small = omega (arith, c.short_of.ensures) }
