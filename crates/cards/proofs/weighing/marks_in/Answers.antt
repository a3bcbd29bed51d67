-- `cards::weighing::marks_in` meets its contract. Assumes nothing.
use native.Mathlib.Omega.{arith}
use mathlib.Core.Path.{refl}
use Rattle.cards.specs.Steps.{marks_in}
use Rattle.cards.proofs.weighing.marks_in.Goals as goal

pub returns : goal.returns
unfolding marks_in
returns c = record { is = refl; small = omega arith }
