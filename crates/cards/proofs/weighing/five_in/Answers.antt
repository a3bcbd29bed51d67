-- `cards::weighing::five_in` meets its contract. Assumes nothing.
use Rattle.cards.specs.Packed.{digits}
use borrow.Author.Rules.{rules}
use Rattle.cards.proofs.weighing.five_in.Goals as goal

pub returns : goal.returns
unfolding digits
returns c = search rules
