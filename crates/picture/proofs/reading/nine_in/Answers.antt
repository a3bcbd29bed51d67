-- `nine_in` meets its contract, by its test.
use borrow.Author.Tests.{eq-eqb, ne_eqb}
use Rattle.picture.specs.Lines.{nine_of}
use Rattle.picture.proofs.reading.nine_in.Goals as goal

pub returns-then-part-eq9 : goal.returns-then-part-eq9
unfolding nine_of
returns-then-part-eq9 c = rw (eq-eqb _ _ c.if-part-eq9.true) cc

pub returns : goal.returns
unfolding nine_of
returns c = rw (ne_eqb _ _ c.if-part-eq9.false)
