-- `units` meets its contract.
use mathlib.Core.Path.{refl}
use Rattle.figures.specs.Grouped.{units_of}
use Rattle.figures.proofs.grouped.units.Goals as goal

pub returns : goal.returns
unfolding units_of
returns c = refl
