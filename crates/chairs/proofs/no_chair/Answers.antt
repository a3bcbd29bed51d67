-- `no_chair` meets its contract.
use Rattle.chairs.proofs.no_chair.Goals as goal

pub returns : goal.returns
returns c = cc
