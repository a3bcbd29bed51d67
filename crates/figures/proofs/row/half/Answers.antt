-- `half` meets its contract.
use Rattle.figures.specs.ScreenRow.{half_row}
use Rattle.figures.proofs.row.half.Goals as goal

pub returns : goal.returns
unfolding half_row
returns c = c.either.ensures
