-- `empty` meets its contract.
use mathlib.Core.Path.{refl}
use Rattle.lines.proofs.Keeps.{empty_room}
use Rattle.lines.proofs.empty.Goals as goal

pub returns : goal.returns
returns c = (refl, empty_room)
