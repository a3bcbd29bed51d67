-- `payout_shown` meets its contract.
use Rattle.desk.proofs.payout_shown.Goals as goal

pub returns : goal.returns
returns c = rw c.rows_of.ensures
