-- `play_on` meets its contract.
use Rattle.fresh.proofs.Steps.{play_is}
use mathlib.Core.Path.{refl}
use Rattle.fresh.proofs.play_on.Goals as goal

pub returns : goal.returns
returns c = (play_is c.args.p c.args.n c.args.e c.take-k.ensures.0 refl c.both.ensures, c.take-k.ensures.1)
