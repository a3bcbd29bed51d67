-- `what_fits` meets its contract.
-- Assumes nothing.
use Rattle.pool.specs.Jackpot.{fits_in}
use Rattle.pool.proofs.what_fits.Goals as goal

pub returns : goal.returns
unfolding fits_in
returns c = cc
