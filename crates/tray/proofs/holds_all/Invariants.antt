-- `holds_all` meets its contract. The invariant: each row below i holds what is taken from it.
-- Assumes nothing.
use Rattle.std.proofs.Common.{◌≡◌, true, length, leb, get_or}
use Rattle.tray.specs.Counting.{all_to}
use Rattle.tray.specs.Proposal.{taken_from}
use Rattle.tray.proofs.holds_all.Given as goal

abbrev pub invariant-loop-i : goal.invariant-loop-i
invariant-loop-i l = all_to l.i (λ k. leb (taken_from (length l.counts) l.sittings l.p k) (get_or l.counts k 0)) ≡ true
