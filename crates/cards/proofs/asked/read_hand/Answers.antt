-- `cards::asked::read_hand` meets its contract. Assumes nothing.
use mathlib.Core.Path.{ap, sym, ◌∙◌}
use borrow.Author.Tests.{eq-eqb, ne_eqb}
use Rattle.std.specs.Prelude.{Ok}
use Rattle.cards.specs.Reading.{reading_of}
use Rattle.cards.proofs.Numbered.{asked_is}
use Rattle.cards.proofs.asked.read_hand.Goals as goal

pub returns-then-cards-ne7 : goal.returns-then-cards-ne7
unfolding reading_of
returns-then-cards-ne7 c = asked_is _ _ _ (rw (ne_eqb _ _ c.if-cards-ne7.true))

pub returns-then-any_outside : goal.returns-then-any_outside
unfolding reading_of
returns-then-any_outside c = asked_is _ _ _ (rw (eq-eqb _ _ c.if-cards-ne7.false, sym c.any_outside.ensures ∙ c.if-any_outside.true))

pub returns-then-any_twice : goal.returns-then-any_twice
unfolding reading_of
returns-then-any_twice c = asked_is _ _ _ (rw (eq-eqb _ _ c.if-cards-ne7.false, sym c.any_outside.ensures ∙ c.if-any_outside.false, sym c.any_twice.ensures ∙ c.if-any_twice.true))

pub returns : goal.returns
unfolding reading_of
returns c = asked_is _ _ _ (rw (eq-eqb _ _ c.if-cards-ne7.false, sym c.any_outside.ensures ∙ c.if-any_outside.false, sym c.any_twice.ensures ∙ c.if-any_twice.false) (ap Ok c.best_hand.ensures))
