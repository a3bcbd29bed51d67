-- `count` meets its contract: what is counted so far and what the rest counts make the whole count. Assumes nothing.
use Prim.Native.Nat.{◌≤◌, ◌+◌}
use mathlib.Core.Bool.{Bool}
use mathlib.Core.Path.{◌≡◌}
use lib.ListN.{drop}
use Rattle.std.specs.Fn.{FnReturnsAt}
use Rattle.chairs.specs.Chairs.{count_of}
use Rattle.chairs.specs.declared.Chair.{Chair}
use Rattle.chairs.proofs.passes.count.Given as goal

abbrev pub invariant-loop-c : goal.invariant-loop-c
invariant-loop-c g l =
    (l.n ≤ l.c-index)
    × ((p : Chair → Bool) → ((c : Chair) (r : Bool) → FnReturnsAt g.F.Fn l.asked c r → r ≡ p c) → l.n + count_of p (drop l.c-index l.cs) ≡ count_of p l.cs)
