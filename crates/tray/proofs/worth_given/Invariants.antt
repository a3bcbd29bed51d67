-- `worth_given` meets its contract. The invariant: the worth of the rows below i, which is small.
-- Assumes nothing.
use Rattle.tray.specs.Proposal.{given}
use Rattle.tray.specs.Counting.{sum_to}
use lib.ListN.{get_or}
use mathlib.Core.Path.{◌≡◌}
use Prim.Native.Nat.{◌*◌, ◌≤◌}
use Rattle.tray.proofs.worth_given.Given as goal

abbrev pub invariant-loop-i : goal.invariant-loop-i
invariant-loop-i l = (l.sum ≤ l.i * 429496729500000) × (l.sum ≡ sum_to l.i (λ k. given l.rows l.p l.s k * get_or l.worths k 0))
