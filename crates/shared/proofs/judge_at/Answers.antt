-- `judge_at` meets its contract: 14 for a correction, else as at any table. Assumes nothing.
use Rattle.shared.proofs.Laws.{judged_right, judged_any}
use borrow.Author.Rules.{rules}
use Rattle.shared.proofs.judge_at.Goals as goal

pub returns-then-is_right : goal.returns-then-is_right
returns-then-is_right c = judged_right _ _ c.is_right.ensures c.if-is_right.true c.corrected_number.ensures c.refused.ensures (search rules)

pub returns : goal.returns
returns c = judged_any _ _ c.is_right.ensures c.if-is_right.false c.judge.ensures
