-- `banked::hands::flop_hand_of` meets its contract. Assumes nothing.
use Rattle.banked.specs.Hands.{flop_hand_of}
use Rattle.banked.proofs.Deal.flop_hand_of.Goals as goal

pub returns : goal.returns
unfolding flop_hand_of
returns c = c.five_worth.ensures
