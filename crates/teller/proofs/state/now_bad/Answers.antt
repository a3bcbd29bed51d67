-- `teller::state::now_bad` meets its contract: whether something is wrong. Assumes nothing.
use mathlib.Core.Path.{refl}
use Rattle.teller.proofs.state.now_bad.Goals as goal

pub returns : goal.returns
returns c = rw (c.either-2.ensures, c.either.ensures) refl
