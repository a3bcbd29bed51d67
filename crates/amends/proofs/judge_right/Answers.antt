-- `judge_right` meets its contract.
use Rattle.amends.proofs.Judging.{code_is, judged_no, judged_yes, judged_small, refused_right}
use Rattle.amends.proofs.judge_right.Goals as goal

pub returns-then-code-ne-TAKEN : goal.returns-then-code-ne-TAKEN
returns-then-code-ne-TAKEN c = let t = c.args.t in let r = c.args.r in let log = c.args.log.now in let shared = c.args.shared in let code = code_is t shared r log c.unwrap_or-n.ensures c.short_of.ensures c.record_in-old.ensures c.right_code-code.ensures in let j = refused_right t c.unwrap_or-n.result c.right_code-code.result c.requires.0 c.refused.ensures (judged_no t shared r log c.unwrap_or-n.ensures code c.if-code-ne-TAKEN.true) in (j.0, j.1, j.2, judged_small t shared r log c.requires.2 j.0)

pub returns : goal.returns
returns c = let t = c.args.t in let r = c.args.r in let log = c.args.log.now in let shared = c.args.shared in let code = code_is t shared r log c.unwrap_or-n.ensures c.short_of.ensures c.record_in-old.ensures c.right_code-code.ensures in let j = judged_yes t shared r log c.unwrap_or-n.ensures code c.if-code-ne-TAKEN.false c.parsed_in.ensures c.replayed.ensures.0 in (j, c.replayed.ensures.1, c.replayed.ensures.2, judged_small t shared r log c.requires.2 j)
