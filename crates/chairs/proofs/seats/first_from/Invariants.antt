-- `first_from` meets its contract: none of the first k seats clockwise is as asked, so that the first among those behind them is the first of all.
use mathlib.Core.Bool.{Bool}
use mathlib.Core.Path.{◌≡◌}
use lib.ListN.{drop}
use Rattle.std.specs.Fn.{FnReturnsAt}
use Rattle.chairs.specs.Chairs.{first_of, clockwise}
use Rattle.chairs.specs.declared.Chair.{Chair}
use Rattle.chairs.proofs.seats.first_from.Given as goal

abbrev pub invariant-loop-k : goal.invariant-loop-k
invariant-loop-k g l =
    (p : Chair → Bool) → ((c : Chair) (r : Bool) → FnReturnsAt g.F.Fn l.asked c r → r ≡ p c)
    → first_of p l.cs (drop l.k (clockwise l.seats l.s)) ≡ first_of p l.cs (clockwise l.seats l.s)
