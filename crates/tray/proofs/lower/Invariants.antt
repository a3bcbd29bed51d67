-- `lower` meets its contract. The invariant: the counts of the rows below i are lowered.
-- Assumes nothing.
use Prim.Native.Nat.{◌-◌}
use mathlib.Core.Path.{◌≡◌}
use lib.ListN.{length}
use Rattle.tray.specs.Proposal.{taken_from}
use Rattle.tray.proofs.Front.{front_by}
use Rattle.tray.proofs.lower.Given as goal

abbrev pub invariant-loop-i : goal.invariant-loop-i
invariant-loop-i l = (l.counts ≡ front_by l.i (λ k n. n - taken_from (length l.initial.counts) l.sittings l.p k) l.initial.counts)
