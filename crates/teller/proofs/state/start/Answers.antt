-- `teller::state::start` meets its contract: before the first line, which is sound. Assumes nothing.
use Rattle.teller.proofs.Soundness.{sound_start}
use mathlib.Core.Path.{refl}
use Rattle.teller.proofs.state.start.Goals as goal

pub returns : goal.returns
returns c = rw c.none_listed-listed.ensures (refl, sound_start)
