-- `put` meets its contract: the part from the place on is lent to the writer of bytes.
use Rattle.figures.proofs.Puts.{put_part}
use Rattle.figures.proofs.put.put.Goals as goal

pub returns : goal.returns
returns c = put_part c.requires c.put_bytes.ensures
