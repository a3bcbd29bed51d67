-- `judge_block` meets its contract: what the table says to the block's plan is what the desk judges.
use Rattle.desk.proofs.Plans.{judged_small}
use Rattle.desk.proofs.judge_block.Goals as goal

pub returns : goal.returns
returns c = judged_small c.args.t c.args.b c.requires.0 c.requires.1 c.plan-p.ensures c.take-k.ensures c.or_else.ensures
