-- `teller::state::fits_due` meets its contract: whether a line is the one that is due. Assumes nothing.
use mathlib.Core.Path.{refl}
use Rattle.teller.proofs.state.fits_due.Goals as goal

pub returns : goal.returns
returns c = rw (c.both-2.ensures, c.both.ensures, c.within_due.ensures) refl
