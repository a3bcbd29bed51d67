-- `copy_on` meets its contract: at each turn what was written, and what is heard so far, is said by `Feeding`.
use Rattle.copier.proofs.On.{Feeding}
use lib.ListN.{length}
use Prim.Native.Nat.{◌-◌}
use Rattle.copier.proofs.copy_on.Given as goal

abbrev pub invariant-loop-used : goal.invariant-loop-used
invariant-loop-used l = Feeding l.initial.copier l.initial.buf l.part l.initial.copy l.initial.notes l.buf l.copy l.notes l.copier l.used l.at l.said

abbrev pub decreases-loop-used : goal.decreases-loop-used
decreases-loop-used l = length l.part - l.used
