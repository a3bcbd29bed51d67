-- `is_full` meets its contract.
use Rattle.ledger.specs.Entering.{is_full}
use Rattle.ledger.proofs.judged.is_full.Goals as goal

pub returns : goal.returns
unfolding is_full
returns c = cc
