-- `ladder::in_row` meets its contract. Assumes nothing.
use Rattle.laws.proofs.Compare.{both_last}
use Rattle.cards.specs.Cards.{in_row}
use Rattle.ladder.proofs.in_row.Goals as goal

pub returns : goal.returns
unfolding in_row
returns c = simp both_last (cc)
