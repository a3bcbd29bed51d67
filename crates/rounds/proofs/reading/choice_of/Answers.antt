-- `rounds::reading::choice_of` meets its contract. Assumes nothing.
use Rattle.rounds.specs.RoundText.{choice_of}
use borrow.Author.Tests.{eq-eqb, ne_eqb}
use Rattle.rounds.proofs.reading.choice_of.Goals as goal

pub returns-then-fold-eq1 : goal.returns-then-fold-eq1
unfolding choice_of
returns-then-fold-eq1 c = rw (eq-eqb _ _ c.if-fold-eq1.true)

pub returns : goal.returns
unfolding choice_of
returns c = rw (ne_eqb _ _ c.if-fold-eq1.false)
