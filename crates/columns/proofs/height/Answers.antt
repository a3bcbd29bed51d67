-- `height` meets its contract.
use Rattle.columns.specs.Columns.{drawn_of}
use Rattle.columns.proofs.height.Goals as goal

pub returns : goal.returns
unfolding drawn_of
returns c = cc
