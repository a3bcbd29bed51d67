-- `hands::put` meets its contract. Assumes nothing.
use Rattle.hands.specs.Answers.{written}
use mathlib.Core.Path.{refl}
use Rattle.hands.proofs.put.Goals as goal

pub returns : goal.returns
unfolding written
returns c = record { wrote = record { end = refl; sheet = refl }; room = refl }
