-- `put_amount` meets its contract.
use Rattle.figures.specs.ScreenRow.{amount_of}
use Rattle.figures.proofs.row.put_amount.Goals as goal

pub returns : goal.returns
unfolding amount_of
returns c = (rw c.grouped-g.ensures at c.put_cell.ensures.0, c.put_cell.ensures.1)
