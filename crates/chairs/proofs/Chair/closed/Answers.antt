-- `Chair::closed` meets its contract.
use Rattle.chairs.proofs.Chair.closed.Goals as goal

pub returns : goal.returns
returns c = cc
