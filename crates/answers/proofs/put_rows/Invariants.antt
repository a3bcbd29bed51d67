-- `put_rows` meets its contract.
use lib.ListN.{take}
use Rattle.answers.specs.Answer.{joined, row_bytes}
use Rattle.writing.specs.AnswerSheet.{Wrote}
use Rattle.answers.proofs.put_rows.Given as goal

abbrev pub invariant-loop-r : goal.invariant-loop-r
invariant-loop-r l = Wrote (joined row_bytes (take l.r-index l.rows)) l.initial.sheet l.sheet l.at
