-- `uncut` meets its contract.
-- Assumes nothing.
use Rattle.pots.specs.Settle.{uncut_of}
use Rattle.pots.proofs.settle.uncut.Goals as goal

pub returns : goal.returns
unfolding uncut_of
returns c = cc
