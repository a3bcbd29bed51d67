-- `one_suit` meets its contract. Assumes nothing.
use Rattle.cards.specs.Cards.{all_alike, one_suit}
use Rattle.laws.proofs.Compare.{both_last}
use Rattle.royal.proofs.one_suit.Goals as goal

pub returns : goal.returns
unfolding one_suit all_alike
returns c = simp both_last (cc)
