-- `turn` meets its contract. The invariant: the first j places are those of the turned list.
-- Assumes nothing.
use mathlib.Core.Path.{◌≡◌}
use mathlib.Core.List.{◌++◌}
use lib.ListN.{length, drop, take}
use Rattle.pots.specs.Settle.{turned}
use Rattle.pots.proofs.settle.turn.Given as goal

abbrev pub invariant-loop-j : goal.invariant-loop-j
invariant-loop-j l = (length l.a ≡ 10) × (take l.j l.a ++ drop l.j (turned l.k l.xs) ≡ turned l.k l.xs)
