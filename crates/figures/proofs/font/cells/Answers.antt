-- `cells` meets its contract: its eleven dots are the definition's.
use Rattle.figures.specs.Lamp.{cells_of}
use Rattle.figures.proofs.font.cells.Goals as goal

pub returns : goal.returns
unfolding cells_of
returns c = cc
