-- `spared` meets its contract.
use Rattle.paper.proofs.spared.Goals as goal

pub returns : goal.returns
returns c = cc
