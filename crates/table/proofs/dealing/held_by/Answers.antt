-- `held_by` meets its contract.
use Rattle.table.proofs.dealing.held_by.Goals as goal

pub returns-then-ok : goal.returns-then-ok
returns-then-ok c = rw c.if-ok.true c.held.ensures
