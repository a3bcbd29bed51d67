-- `payments::writer::put_sittings` meets its contract: each sitting with its part of the proposal. Assumes nothing.
use Rattle.payments.specs.Payments.{sittings_text}
use Rattle.writing.specs.AnswerSheet.{Wrote}
use lib.ListN.{length}
use Prim.Native.Nat.{◌*◌, ◌≤◌}
use mathlib.Core.Path.{◌≡◌}
use Rattle.payments.proofs.writer.put_sittings.Given as goal

abbrev pub invariant-loop-s : goal.invariant-loop-s
invariant-loop-s l = (length l.out ≡ length l.initial.out) × Wrote (sittings_text l.s l.sittings l.rows l.gives) l.initial.out l.out l.at × (l.at ≤ 258 * l.s)
