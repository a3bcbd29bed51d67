-- `rows_fit` meets its contract. The invariant: each row below i is within its bounds.
-- Assumes nothing.
use Rattle.std.proofs.Common.{◌≡◌, true, get_or}
use Rattle.tray.specs.Proposal.{row_fits}
use Rattle.tray.specs.Counting.{all_to}
use Rattle.tray.proofs.rows_fit.Given as goal

abbrev pub invariant-loop-i : goal.invariant-loop-i
invariant-loop-i l = all_to l.i (λ k. row_fits (get_or l.worths k 0) (get_or l.counts k 0)) ≡ true
