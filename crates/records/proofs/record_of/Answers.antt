-- `record_of` meets its contract.
use Rattle.records.proofs.record_of.Goals as goal

pub returns : goal.returns
returns c = cc
