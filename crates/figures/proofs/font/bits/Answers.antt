-- `bits` meets its contract: the code's font is the definition's.
use mathlib.Core.Path.{refl}
use Rattle.figures.specs.Lamp.{bits_of}
use Rattle.figures.proofs.font.bits.Goals as goal

pub returns : goal.returns
unfolding bits_of
returns c = refl
