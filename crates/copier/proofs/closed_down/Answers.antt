-- `closed_down` meets its contract.
use Rattle.copier.proofs.Steps.{made}
use Rattle.copier.specs.Onward.{Shut}
use Rattle.copier.proofs.closed_down.Goals as goal

pub returns : goal.returns
returns c = made Shut (rw c.empty-z.ensures.0)
