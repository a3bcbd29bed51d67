-- `put_cell` meets its contract: its three parts stand one behind the other.
use Rattle.figures.proofs.Puts.{next}
use Rattle.figures.specs.ScreenRow.{cell_of}
use native.Mathlib.Omega.{arith}
use Rattle.figures.proofs.row.put_cell.Goals as goal

pub returns : goal.returns
unfolding cell_of
returns c = (next (next c.put-a.ensures c.put_lit-b.ensures.0) c.put.ensures, omega (arith, c.requires.0, c.requires.1, c.put-a.ensures.count, c.put_lit-b.ensures.1, c.put.ensures.count))
