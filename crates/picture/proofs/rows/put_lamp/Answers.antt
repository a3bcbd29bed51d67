-- `put_lamp` meets its contract: its five rows stand one behind the other.
use Rattle.figures.proofs.Puts.{next}
use Rattle.picture.specs.Rows.{lamp_of}
use borrow.Author.Tests.{eq-eqb, ne_eqb}
use native.Mathlib.Omega.{arith}
use Rattle.picture.proofs.rows.put_lamp.Goals as goal

pub returns-then-seat-eq0 : goal.returns-then-seat-eq0
unfolding lamp_of
returns-then-seat-eq0 c = (rw (eq-eqb _ _ c.if-seat-eq0.true) c.put_cell.ensures.0, omega (arith, c.put_cell.ensures.1))

pub returns : goal.returns
unfolding lamp_of
returns c = (rw (ne_eqb _ _ c.if-seat-eq0.false) (next (next (next (next c.put_lamp_cell-a.ensures.0 c.put_lamp_row-b.ensures.0) c.put_lamp_row-c.ensures.0) c.put_lamp_row-d.ensures.0) c.put_lamp_row.ensures.0), omega (arith, c.put_lamp_cell-a.ensures.1, c.put_lamp_row-b.ensures.1, c.put_lamp_row-c.ensures.1, c.put_lamp_row-d.ensures.1, c.put_lamp_row.ensures.1))
