-- `Chair::held` meets its contract.
use Rattle.chairs.proofs.Chair.held.Goals as goal

pub returns : goal.returns
returns c = rw c.hole_with-k.ensures
