-- `hear_part` meets its contract.
use mathlib.Core.Path.{◌≡◌}
use Rattle.stream.specs.Feeding.{Held}
use lib.ListN.{length}
use Prim.Native.Nat.{◌-◌, ◌≤◌}
use Rattle.try_chops.proofs.served.hear_part.Given as goal

-- `hear_part` meets its contract: what is kept has its bounds, and each call uses up a byte at least.
abbrev pub invariant-loop-buf : goal.invariant-loop-buf
invariant-loop-buf l = (length l.buf ≡ length l.initial.buf) × (length l.trace ≡ length l.initial.trace) × Held l.clerk × (l.at ≤ length l.initial.trace) × (l.used ≤ length l.part)

abbrev pub decreases-loop-buf : goal.decreases-loop-buf
decreases-loop-buf l = length l.part - l.used
