-- `unpack` meets its contract.
use Rattle.packed.specs.Layout.{clerk_from}
use Rattle.text.proofs.Parts.{part_is}
use Rattle.packed.proofs.unpack.Goals as goal

pub returns : goal.returns
unfolding clerk_from
returns c = cc (part_is 82 c.args.b.now)
