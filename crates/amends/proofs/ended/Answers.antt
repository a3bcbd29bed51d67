-- `ended` meets its contract.
use Rattle.amends.proofs.Judging.{ended_is}
use Rattle.amends.proofs.ended.Goals as goal

pub returns : goal.returns
returns c = ended_is c.args.lines.now c.after_lines-fifth.ensures c.line_end.ensures
