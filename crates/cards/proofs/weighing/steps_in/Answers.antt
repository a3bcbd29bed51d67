-- `cards::weighing::steps_in` meets its contract. Assumes nothing.
use native.Mathlib.Omega.{arith}
use mathlib.Core.Path.{refl}
use Rattle.cards.specs.Steps.{steps_in}
use Rattle.cards.proofs.weighing.steps_in.Goals as goal

pub returns : goal.returns
unfolding steps_in
returns c = record { is = refl; small = omega arith }
