-- `teller::state::paid_line` meets its contract: a `paid` line. Assumes nothing.
use mathlib.Core.Path.{refl}
use Rattle.teller.proofs.state.paid_line.Goals as goal

pub returns : goal.returns
returns c = rw (c.now_bad.ensures, c.one_more.ensures, c.put.ensures) refl
