-- `taken_from` meets its contract. The invariant: the sum of the sittings below s, which is small.
-- Assumes nothing.
use Rattle.tray.specs.Proposal.{given}
use Rattle.tray.specs.Counting.{sum_to}
use mathlib.Core.Path.{◌≡◌}
use Prim.Native.Nat.{◌*◌, ◌≤◌}
use Rattle.tray.proofs.taken_from.Given as goal

abbrev pub invariant-loop-s : goal.invariant-loop-s
invariant-loop-s l = (l.sum ≤ l.s * 4294967295) × (l.sum ≡ sum_to l.s (λ k. given l.rows l.p k l.i))
