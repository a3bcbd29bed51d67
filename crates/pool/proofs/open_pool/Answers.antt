-- `open_pool` meets its contract.
-- Assumes nothing.
use Rattle.pool.specs.Jackpot.{opened_with}
use Rattle.pool.proofs.open_pool.Goals as goal

pub returns : goal.returns
unfolding opened_with
returns c = cc
