-- `counted` meets its contract, by its tests.
use Rattle.figures.specs.ScreenRow.{counted_of}
use borrow.Author.Tests.{eq-eqb, ne_eqb}
use native.Mathlib.Omega.{arith}
use Rattle.figures.proofs.row.counted.Goals as goal

pub returns-then-pots-lt999999999 : goal.returns-then-pots-lt999999999
unfolding counted_of
returns-then-pots-lt999999999 c = (rw (eq-eqb _ _ c.if-kind-eq4.true) (omega arith), omega arith)

pub returns-then-kind-eq4 : goal.returns-then-kind-eq4
unfolding counted_of
returns-then-kind-eq4 c = (rw (eq-eqb _ _ c.if-kind-eq4.true) (omega arith), omega arith)

pub returns : goal.returns
unfolding counted_of
returns c = (rw (ne_eqb _ _ c.if-kind-eq4.false), omega arith)
