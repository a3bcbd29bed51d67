-- `hands::take_byte` meets its contract. Assumes nothing.
use Rattle.hands.specs.Lines.{taken_to, cards_with}
use borrow.Author.Tests.{eq-eqb, ne_eqb}
use Rattle.hands.proofs.take_byte.Goals as goal

pub returns-then-b-eq32-clause-is : goal.returns-then-b-eq32-clause-is
unfolding taken_to cards_with
returns-then-b-eq32-clause-is c = (rw (eq-eqb _ _ c.if-b-eq32.true) c.end_word.ensures.is.0, rw (eq-eqb _ _ c.if-b-eq32.true) c.end_word.ensures.is.1)

pub returns-clause-is : goal.returns-clause-is
unfolding taken_to cards_with
returns-clause-is c = (rw (ne_eqb _ _ c.if-b-eq32.false, c.grown.ensures, c.unwrap_or.ensures), rw (ne_eqb _ _ c.if-b-eq32.false))
