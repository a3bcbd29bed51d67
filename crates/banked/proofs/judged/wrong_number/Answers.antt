-- `banked::judged::wrong_number` meets its contract. Assumes nothing.
use Rattle.banked.specs.Rounds.{wrong_number}
use Rattle.banked.proofs.judged.wrong_number.Goals as goal

pub returns : goal.returns
unfolding wrong_number
returns c = cc
