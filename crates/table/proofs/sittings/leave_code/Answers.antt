-- `leave_code` meets its contract. Assumes nothing.
use Rattle.table.proofs.sittings.leave_code.Goals as goal

pub returns : goal.returns
returns c = rw c.either.ensures at c.refuse.ensures
