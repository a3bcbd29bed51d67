-- `wins` meets its contract.
use Rattle.columns.specs.Columns.{wins_of}
use Rattle.columns.proofs.wins.Goals as goal

pub returns : goal.returns
unfolding wins_of
returns c = cc
