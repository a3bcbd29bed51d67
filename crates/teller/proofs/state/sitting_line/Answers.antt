-- `teller::state::sitting_line` meets its contract: a `sitting` line. Assumes nothing.
use mathlib.Core.Path.{refl}
use Rattle.teller.proofs.state.sitting_line.Goals as goal

pub returns : goal.returns
returns c = rw (c.now_bad.ensures, c.put.ensures) refl
