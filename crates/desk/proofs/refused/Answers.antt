-- `refused` meets its contract.
use Rattle.desk.proofs.refused.Goals as goal

pub returns : goal.returns
returns c = rw c.no_payout-none.ensures
