-- `may_end` meets its contract.
use Rattle.renewal.proofs.may_end.Goals as goal

pub returns : goal.returns
returns c = rw c.if-begun.false
