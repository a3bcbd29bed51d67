-- `start` meets its contract.
use Rattle.frames.proofs.Nexts.{started}
use Rattle.frames.proofs.start.Goals as goal

pub returns : goal.returns
returns c = started c.empty-z.ensures.0
