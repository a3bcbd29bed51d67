-- `entry_by` meets its contract.
use Rattle.records.proofs.Found.{entry_none}
use Rattle.records.proofs.entry_by.Goals as goal

pub returns-then-k-lt12 : goal.returns-then-k-lt12
returns-then-k-lt12 c = cc

pub returns : goal.returns
returns c = entry_none _ _ _ _ c.if-k-lt12.false
