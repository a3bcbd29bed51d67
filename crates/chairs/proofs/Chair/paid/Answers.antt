-- `Chair::paid` meets its contract.
use Rattle.chairs.proofs.Chair.paid.Goals as goal

pub returns : goal.returns
returns c = rw c.least-p.ensures
