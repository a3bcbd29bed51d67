-- `scores` meets its contract: the first i seats are scored.
use mathlib.Core.Path.{◌≡◌}
use mathlib.Core.List.{◌++◌, map}
use lib.ListN.{length, drop, take}
use Rattle.table.specs.Settle.{score_of}
use Rattle.table.proofs.settle.scores.Given as goal

abbrev pub invariant-loop-i : goal.invariant-loop-i
invariant-loop-i l = (length l.all ≡ 10) × (take l.i l.all ++ map (score_of l.deck l.game l.b) (drop l.i l.c-items) ≡ map (score_of l.deck l.game l.b) l.c-items)
