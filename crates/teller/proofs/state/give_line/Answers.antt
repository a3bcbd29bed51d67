-- `teller::state::give_line` meets its contract: a `give` line. Assumes nothing.
use Rattle.teller.specs.Keeping.{give_line}
use mathlib.Core.Path.{refl}
use Rattle.teller.proofs.state.give_line.Goals as goal

pub returns : goal.returns
unfolding give_line
returns c = rw (c.one_more.ensures, c.marked-listed.ensures, c.now_bad.ensures) refl
