-- What befalls every chair (`sweep_of`, Chairs). Assumes nothing.
use Rattle.std.specs.Prelude.{Bool}

-- another has wagered, by a full lift or a short one; a round opens; a hand opens
pub data Sweep : Type 0 where
  Again : (full : Bool) → Sweep
  Round : Sweep
  Deal : Sweep
