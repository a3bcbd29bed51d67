-- `sum` meets its contract. The invariant: s is the sum of the numbers from place i on, each of 32 bits.
-- Assumes nothing.
use Prim.Native.Nat.{◌+◌, ◌*◌, ◌≤◌}
use mathlib.Core.Path.{◌≡◌}
use lib.ListN.{drop}
use Rattle.laws.specs.Lists.{sum_of}
use Rattle.try_pots.proofs.hand.sum.Given as goal

abbrev pub invariant-loop-i : goal.invariant-loop-i
invariant-loop-i l = (l.s ≡ sum_of (drop l.i l.xs)) × (l.s + 4294967295 * l.i ≤ 42949672950)
