-- `is_charge` meets its contract.
use Rattle.paper.proofs.is_charge.Goals as goal

pub returns : goal.returns
returns c = cc
