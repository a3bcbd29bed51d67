-- `fee` meets its contract.
-- Assumes nothing.
use Rattle.pots.specs.Settle.{fee_of}
use Rattle.pots.proofs.settle.fee.Goals as goal

pub returns : goal.returns
unfolding fee_of
returns c = cc
