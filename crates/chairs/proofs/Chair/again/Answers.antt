-- `Chair::again` meets its contract.
use Rattle.chairs.proofs.Chair.again.Goals as goal

pub returns : goal.returns
returns c = rw c.both-spent.ensures
