-- `begun` meets its contract.
-- Assumes nothing.
use Rattle.try_pots.proofs.line.begun.Goals as goal

pub returns : goal.returns
returns c = cc
