-- `mask` meets its contract: the mask is of the places from i on. Assumes nothing.
use Prim.Native.Nat.{ℕ, ◌<◌, ◌-◌}
use mathlib.Core.Bool.{Bool}
use mathlib.Core.List.{map}
use mathlib.Core.Path.{◌≡◌}
use lib.ListN.{length, drop}
use Rattle.std.specs.Fn.{FnReturnsAt}
use Rattle.laws.specs.Tests.{one}
use Rattle.pots.specs.Heights.{mask_at}
use Rattle.chairs.specs.declared.Chair.{Chair}
use Rattle.chairs.proofs.Above.{top}
use Rattle.chairs.proofs.passes.mask.Given as goal

abbrev pub invariant-loop-i : goal.invariant-loop-i
invariant-loop-i g l =
    (l.m < top (length l.cs - l.i))
    × ((f : Chair → ℕ) → ((c : Chair) (r : Bool) → FnReturnsAt g.F.Fn l.asked c r → one r ≡ f c) → l.m ≡ mask_at (map f (drop l.i l.cs)) 1)
