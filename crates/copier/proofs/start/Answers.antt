-- `start` meets its contract.
use Rattle.copier.proofs.Steps.{made}
use Rattle.copier.specs.Onward.{Unread}
use Rattle.copier.proofs.start.Goals as goal

pub returns : goal.returns
returns c = made Unread (rw c.empty-z.ensures.0)
