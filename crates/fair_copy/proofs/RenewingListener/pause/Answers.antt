-- `pause` meets its contract: the renewal stays as it is, and what the copier has heard, since its own `pause` leaves that.
use Rattle.std.proofs.Common.{refl}
use Rattle.fair_copy.proofs.RenewingListener.pause.Goals as goal

pub returns-clause-still : goal.returns-clause-still
returns-clause-still c = λ part y. (refl, c.pause.ensures.still part)
