-- `start` meets its contract.
use Rattle.seen.proofs.told.start.Goals as goal

pub returns : goal.returns
returns c = rw c.no_payout-none.ensures
