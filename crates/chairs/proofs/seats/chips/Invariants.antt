-- `chips` meets its contract: what is added so far and the rest are all chips of the seats.
use Prim.Native.Nat.{◌+◌, ◌*◌, ◌≤◌}
use mathlib.Core.Path.{◌≡◌}
use lib.ListN.{drop}
use Rattle.chairs.specs.Chairs.{chips_of}
use Rattle.chairs.proofs.seats.chips.Given as goal

abbrev pub invariant-loop-c : goal.invariant-loop-c
invariant-loop-c l = (l.n ≤ l.c-index * 8589934590) × (l.n + chips_of (drop l.c-index l.c-items) ≡ chips_of l.c-items)
