-- `least_card` meets its contract.
use mathlib.Core.Path.{sym, ap}
use mathlib.Core.Bool.{Bool}
use borrow.Author.Tests.{eq-eqb, ne_eqb}
use Rattle.laws.specs.Tests.{pick}
use Rattle.paper.proofs.least_card.Goals as goal

pub returns-then-deck-eq32 : goal.returns-then-deck-eq32
returns-then-deck-eq32 c = sym (ap (λ (b : Bool). pick b 20 0) (eq-eqb c.args.deck 32 c.if-deck-eq32.true))

pub returns-else-deck-eq32 : goal.returns-else-deck-eq32
returns-else-deck-eq32 c = sym (ap (λ (b : Bool). pick b 20 0) (ne_eqb c.args.deck 32 c.if-deck-eq32.false))
