-- `clerk_after` meets its contract.
use Rattle.stream.proofs.One.{after_is}
use Rattle.stream.proofs.clerk_after.Goals as goal

pub returns : goal.returns
returns c = after_is c.args.table c.args.written c.args.short c.empty-z.ensures.0
