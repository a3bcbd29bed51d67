-- `cards::weighing::lowest_row` meets its contract. Assumes nothing.
use mathlib.Core.Path.{refl}
use Rattle.cards.specs.Steps.{lowest_row}
use Rattle.cards.proofs.weighing.lowest_row.Goals as goal

pub returns : goal.returns
unfolding lowest_row
returns c = refl
