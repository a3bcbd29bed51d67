-- `ended` meets its contract.
use Rattle.stream.proofs.One.{ended_by}
use Rattle.stream.proofs.ended.Goals as goal

pub returns : goal.returns
returns c = ended_by c.args.block.now c.after_lines-fifth.ensures c.line_end.ensures
