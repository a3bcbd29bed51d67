-- The invariant: what is counted so far and what the rest counts make the whole count. Assumes nothing.
use mathlib.Core.Path.{◌≡◌}
use Prim.Native.Nat.{◌+◌, ◌≤◌}
use lib.ListN.{drop}
use Rattle.chairs.specs.Chairs.{count_of}
use Rattle.royal.specs.Royal.{holds_royal}
use Rattle.royal.proofs.royal_seats.Given as goal

abbrev pub invariant-loop-c : goal.invariant-loop-c
invariant-loop-c l = (l.n ≤ l.c-index) × (l.n + count_of (holds_royal l.game l.b) (drop l.c-index l.c-items) ≡ count_of (holds_royal l.game l.b) l.c-items)
