-- `feed_on` meets its contract: at each turn what was written, and what is to be written from there on, is said by `Feeding`.
use Prim.Native.Nat.{◌-◌}
use lib.ListN.{length}
use Rattle.stream.proofs.On.{Feeding}
use Rattle.stream.proofs.feed_on.Given as goal

abbrev pub invariant-loop-used : goal.invariant-loop-used
invariant-loop-used l = Feeding l.initial.clerk l.initial.buf l.part l.initial.out l.buf l.out l.clerk l.used l.at

abbrev pub decreases-loop-used : goal.decreases-loop-used
decreases-loop-used l = length l.part - l.used
