-- `behind` meets its contract.
use Rattle.copier.proofs.Steps.{made}
use Rattle.copier.specs.Onward.{Open}
use Rattle.copier.proofs.behind.Goals as goal

pub returns : goal.returns
returns c = made (Open c.args.s c.args.count) (rw c.empty-z.ensures.0)
