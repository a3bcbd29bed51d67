-- `dealt_from` meets its contract.
use Rattle.paper.proofs.dealt_from.Goals as goal

pub returns : goal.returns
returns c = cc
