-- `settled_pool` meets its contract.
-- Assumes nothing.
use Rattle.pool.specs.Jackpot.{win_of, settled_pool}
use Rattle.pool.proofs.settled_pool.Goals as goal

pub returns : goal.returns
unfolding win_of settled_pool
returns c = cc
