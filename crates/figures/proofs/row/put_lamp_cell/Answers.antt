-- `put_lamp_cell` meets its contract.
use Rattle.figures.specs.ScreenRow.{lamp_cell}
use Rattle.figures.proofs.row.put_lamp_cell.Goals as goal

pub returns : goal.returns
unfolding lamp_cell
returns c = (rw c.cells-g.ensures at c.put_cell.ensures.0, c.put_cell.ensures.1)
