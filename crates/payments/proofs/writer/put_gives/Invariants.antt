-- `payments::writer::put_gives` meets its contract: the lines of a sitting's part, one behind the other. Assumes nothing.
use Rattle.payments.specs.Payments.{give_text}
use Rattle.answers.specs.Answer.{joined}
use Rattle.writing.specs.AnswerSheet.{Wrote}
use lib.ListN.{length, take}
use Prim.Native.Nat.{◌*◌, ◌≤◌}
use mathlib.Core.Path.{◌≡◌}
use Rattle.payments.proofs.writer.put_gives.Given as goal

abbrev pub invariant-loop-n : goal.invariant-loop-n
invariant-loop-n l = (length l.out ≡ length l.initial.out) × Wrote (joined give_text (take l.n-index l.part)) l.initial.out l.out l.at × (l.at ≤ 15 * l.n-index)
