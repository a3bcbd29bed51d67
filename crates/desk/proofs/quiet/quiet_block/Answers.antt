-- `quiet_block` meets its contract.
use Rattle.desk.proofs.quiet.quiet_block.Goals as goal

pub returns-in-Raw : goal.returns-in-Raw
returns-in-Raw c = rw c.in-Raw.is c.quiet_kind.ensures
