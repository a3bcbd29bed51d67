-- `payments::writer::put_rows` meets its contract: the rows, one behind the other. Assumes nothing.
use Rattle.payments.specs.Payments.{row_text}
use Rattle.answers.specs.Answer.{joined}
use Rattle.writing.specs.AnswerSheet.{Wrote}
use lib.ListN.{length, take}
use Prim.Native.Nat.{◌*◌, ◌≤◌}
use mathlib.Core.Path.{◌≡◌}
use Rattle.payments.proofs.writer.put_rows.Given as goal

abbrev pub invariant-loop-r : goal.invariant-loop-r
invariant-loop-r l = (length l.out ≡ length l.initial.out) × Wrote (joined row_text (take l.r-index l.r-items)) l.initial.out l.out l.at × (l.at ≤ 32 * l.r-index)
