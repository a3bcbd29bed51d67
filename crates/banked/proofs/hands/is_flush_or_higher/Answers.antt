-- `banked::hands::is_flush_or_higher` meets its contract. Assumes nothing.
use Rattle.banked.specs.Hands.{is_flush_or_higher}
use Rattle.banked.proofs.hands.is_flush_or_higher.Goals as goal

pub returns : goal.returns
unfolding is_flush_or_higher
returns c = cc
