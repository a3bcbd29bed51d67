-- `cards::weighing::suits_in` meets its contract. Assumes nothing.
use mathlib.Core.Path.{refl}
use Rattle.cards.specs.Steps.{suits_in}
use Rattle.cards.proofs.weighing.suits_in.Goals as goal

pub returns : goal.returns
unfolding suits_in
returns c = refl
