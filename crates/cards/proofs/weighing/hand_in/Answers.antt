-- `cards::weighing::hand_in` meets its contract. Assumes nothing.
use Rattle.cards.proofs.Searched.{hand_of}
use Rattle.cards.proofs.weighing.hand_in.Goals as goal

pub returns : goal.returns
returns c = hand_of _ _ _ c.five_in-q.ensures c.last.ensures
