-- `ladder::is_straight` meets its contract. Assumes nothing.
use Rattle.laws.proofs.Compare.{both_last}
use Rattle.ladder.proofs.is_straight.Goals as goal

pub returns : goal.returns
returns c = simp both_last (cc)
