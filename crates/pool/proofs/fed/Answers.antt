-- `fed` meets its contract: the sum has room, since nothing fits into a pool above the most.
-- Assumes nothing.
use native.Mathlib.Omega.{arith}
use Rattle.pool.specs.Jackpot.{fits_in, fed_by}
use Rattle.pool.proofs.fed.Goals as goal

pub overflow_add-result : goal.overflow_add-result
unfolding fits_in
overflow_add-result c = record { fits = omega (arith, c.what_fits.ensures) }

pub returns : goal.returns
unfolding fed_by
returns c = cc
