-- `cards::weighing::ranks_in` meets its contract. Assumes nothing.
use Rattle.cards.proofs.Stepped.{ranks_small}
use mathlib.Core.Path.{refl}
use Rattle.cards.specs.Steps.{ranks_in}
use Rattle.cards.proofs.weighing.ranks_in.Goals as goal

pub returns : goal.returns
unfolding ranks_in
returns c = record { is = refl; small = ranks_small _ }
