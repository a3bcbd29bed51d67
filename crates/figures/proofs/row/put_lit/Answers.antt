-- `put_lit` meets its contract: its three parts stand one behind the other.
use Rattle.figures.proofs.Puts.{next}
use Rattle.figures.specs.ScreenRow.{lit_of}
use native.Mathlib.Omega.{arith}
use Rattle.figures.proofs.row.put_lit.Goals as goal

pub returns : goal.returns
unfolding lit_of
returns c = (next (next c.put_if-a.ensures.0 c.put-b.ensures) c.put_if.ensures.0, omega (arith, c.put_if-a.ensures.1, c.put-b.ensures.count, c.put_if.ensures.1))
