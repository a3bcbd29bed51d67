-- `added` meets its contract. The invariant: the first i places are those of the sum.
-- Assumes nothing.
use mathlib.Core.Path.{◌≡◌}
use mathlib.Core.List.{◌++◌}
use lib.ListN.{length, drop, take}
use Rattle.pots.specs.Hand.{plus}
use Rattle.pots.proofs.hand.added.Given as goal

abbrev pub invariant-loop-i : goal.invariant-loop-i
invariant-loop-i l = (length l.a ≡ 10) × (take l.i l.a ++ drop l.i (plus l.x-items l.ys) ≡ plus l.x-items l.ys)
