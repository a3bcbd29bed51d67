-- `to_house` meets its contract.
-- Assumes nothing.
use Rattle.pool.specs.Jackpot.{house_of}
use Rattle.pool.proofs.to_house.Goals as goal

pub returns : goal.returns
unfolding house_of
returns c = cc
