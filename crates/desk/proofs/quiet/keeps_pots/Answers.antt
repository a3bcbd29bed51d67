-- `keeps_pots` meets its contract.
use Rattle.desk.proofs.quiet.keeps_pots.Goals as goal

pub returns : goal.returns
returns c = cc
