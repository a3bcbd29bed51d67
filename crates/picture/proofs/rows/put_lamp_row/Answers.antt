-- `put_lamp_row` meets its contract: a left half and a right half.
use Rattle.figures.proofs.Puts.{next}
use Rattle.picture.specs.Rows.{lamp_row}
use native.Mathlib.Omega.{arith}
use Rattle.picture.proofs.rows.put_lamp_row.Goals as goal

pub returns : goal.returns
unfolding lamp_row
returns c = (next c.put_left-a.ensures.0 c.put_lamp_cell.ensures.0, omega (arith, c.put_left-a.ensures.1, c.put_lamp_cell.ensures.1))
