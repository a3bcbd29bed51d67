-- `ladder::falling` meets its contract: what is left of the ranks, below the last, decides. Assumes nothing.
use mathlib.Core.Path.{◌≡◌}
use lib.ListN.{drop}
use Rattle.ladder.specs.Reckoned.{falling, falling_from}
use Rattle.ladder.proofs.falling.Given as goal

abbrev pub invariant-loop-r : goal.invariant-loop-r
invariant-loop-r l = falling_from l.above (drop l.r-index l.ranks) ≡ falling l.ranks
