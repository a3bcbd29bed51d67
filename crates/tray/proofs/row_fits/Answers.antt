-- `row_fits` meets its contract, by what `both` ensures.
-- Assumes nothing.
use Rattle.tray.proofs.row_fits.Goals as goal

pub returns : goal.returns
returns c = cc
