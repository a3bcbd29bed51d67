-- `is_royal` meets its contract: cards of more than one suit are none. Assumes nothing.
use mathlib.Core.Path.{sym, ap, ◌∙◌}
use lib.Dec.{eqb}
use Rattle.laws.specs.Tests.{both}
use Rattle.cards.specs.declared.Hand.{Hand}
use Rattle.royal.specs.Royal.{is_royal}
use Rattle.royal.proofs.Laws.{suits_differ}
use Rattle.royal.proofs.is_royal.Goals as goal

pub returns-then-not-one_suit : goal.returns-then-not-one_suit
returns-then-not-one_suit c = sym (suits_differ _ (sym c.one_suit.ensures ∙ c.if-not-one_suit.true))

pub returns : goal.returns
unfolding is_royal
returns c = c.both.ensures ∙ ap (λ (h : Hand). both (eqb h.class 0) (eqb h.r1 14)) c.five_worth-h.ensures
