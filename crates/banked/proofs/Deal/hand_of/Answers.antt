-- `banked::hands::hand_of` meets its contract. Assumes nothing.
use Rattle.banked.specs.Hands.{hand_of}
use Rattle.cards.specs.Order.{ranking_of}
use Rattle.banked.proofs.Deal.hand_of.Goals as goal

pub returns : goal.returns
unfolding hand_of ranking_of
returns c = c.best_hand.ensures
