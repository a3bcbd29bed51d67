-- `quiet_kind` meets its contract.
use Rattle.desk.proofs.quiet.quiet_kind.Goals as goal

pub returns : goal.returns
returns c = cc
