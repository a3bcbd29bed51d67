-- `teller::state::anew` meets its contract: behind an answered block. Assumes nothing.
use mathlib.Core.Path.{refl}
use Rattle.teller.proofs.state.anew.Goals as goal

pub returns : goal.returns
returns c = rw c.none_listed-listed.ensures refl
