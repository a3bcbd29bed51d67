-- `hear_on` meets its contract: line after line, and nothing is whole but at the end.
use Rattle.pairs.proofs.Gathers.{Hearing}
use Rattle.lines.specs.Kept.{kept_most}
use lib.ListN.{length}
use Prim.Native.Nat.{◌-◌, ◌≤◌}
use Rattle.pairs.proofs.hear_on.Given as goal

abbrev pub invariant-loop-from : goal.invariant-loop-from
invariant-loop-from l = Hearing l.initial.h.frame l.initial.buf l.part l.buf l.h × (kept_most ≤ length l.initial.buf)

abbrev pub decreases-loop-from : goal.decreases-loop-from
decreases-loop-from l = length l.part - l.h.used
