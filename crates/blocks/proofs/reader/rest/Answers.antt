-- `rest` meets its contract.
use Rattle.blocks.specs.Block.{rest_of}
use Rattle.blocks.proofs.reader.rest.Goals as goal

pub returns : goal.returns
unfolding rest_of
returns c = c.after_lines.ensures
