-- `rounds::parts::gather` meets its contract. Assumes nothing.
use Rattle.rounds.specs.RoundParts.{state_of, gather_of, Held}
use lib.ListN.{length, drop}
use mathlib.Core.Path.{◌≡◌}
use Rattle.rounds.proofs.parts.gather.Given as goal

abbrev pub invariant-loop-i : goal.invariant-loop-i
invariant-loop-i l =
    (length l.buf ≡ length l.initial.buf) × Held l.fill × (gather_of (state_of l.fill l.buf) (drop l.i l.part) ≡ gather_of (state_of l.initial.fill l.initial.buf) l.part)
