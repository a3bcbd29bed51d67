-- `number_as` meets its contract, by its test.
use borrow.Author.Tests.{eq-eqb, ne_eqb}
use Rattle.picture.specs.Lines.{number_as}
use Rattle.picture.proofs.reading.number_as.Goals as goal

pub returns-then-k-eq-JACKPOT : goal.returns-then-k-eq-JACKPOT
unfolding number_as
returns-then-k-eq-JACKPOT c = rw (eq-eqb _ _ c.if-k-eq-JACKPOT.true) c.nine_in.ensures

pub returns : goal.returns
unfolding number_as
returns c = rw (ne_eqb _ _ c.if-k-eq-JACKPOT.false) c.number_in.ensures
