-- `pots::hand::sole` meets its contract.
-- Assumes nothing.
use mathlib.Core.Path.{ap}
use lib.Dec.{eqb}
use Rattle.pots.proofs.hand.sole.Goals as goal

pub returns : goal.returns
returns c = ap (λ n. eqb n 1) c.count.ensures
