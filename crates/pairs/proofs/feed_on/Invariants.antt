-- `feed_on` meets its contract: line after line, as long as bytes and room are left.
use Prim.Native.Nat.{◌-◌, ◌≤◌}
use lib.ListN.{length}
use Rattle.pairs.proofs.On.{Feeding}
use Rattle.pairs.proofs.feed_on.Given as goal

abbrev pub invariant-loop-buf : goal.invariant-loop-buf
invariant-loop-buf l = Feeding l.only l.initial.pair l.initial.frame l.initial.buf l.part l.initial.out l.buf l.out l.pair l.frame l.used l.at × (l.only ≤ 2)

abbrev pub decreases-loop-buf : goal.decreases-loop-buf
decreases-loop-buf l = length l.part - l.used
