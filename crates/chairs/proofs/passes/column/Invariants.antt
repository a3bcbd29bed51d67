-- `column` meets its contract: the places of the chairs so far are read, those behind them are 0. Assumes nothing.
use Prim.Native.Nat.{ℕ}
use mathlib.Core.Path.{◌≡◌}
use lib.ListN.{replicate}
use Rattle.std.specs.Fn.{FnReturnsAt}
use Rattle.chairs.specs.declared.Chair.{Chair}
use Rattle.chairs.proofs.Above.{read_to}
use Rattle.chairs.proofs.passes.column.Given as goal

abbrev pub invariant-loop-i : goal.invariant-loop-i
invariant-loop-i g l =
    (f : Chair → ℕ) → ((c : Chair) (r : ℕ) → FnReturnsAt g.F.Fn l.read c r → r ≡ f c) → l.column ≡ read_to f l.i l.cs (replicate 10 0)
