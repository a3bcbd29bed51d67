-- `kept` meets its contract: of 32 cards the number, else the place.
use borrow.Author.Tests.{eq-eqb, ne_eqb}
use Rattle.ladder.specs.Ladder.{kept_of}
use Rattle.ladder.proofs.kept.Goals as goal

pub returns-then-deck-eq32 : goal.returns-then-deck-eq32
unfolding kept_of
returns-then-deck-eq32 c = rw (eq-eqb c.args.deck 32 c.if-deck-eq32.true) c.strength.ensures

pub returns : goal.returns
unfolding kept_of
returns c = rw (ne_eqb c.args.deck 32 c.if-deck-eq32.false) c.place.ensures
