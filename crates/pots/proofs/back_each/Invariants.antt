-- `back_each` meets its contract: each total less the top. The invariant: what is written and what is still to come are that of all.
-- Assumes nothing.
use Prim.Native.Nat.{◌-◌}
use mathlib.Core.Path.{◌≡◌}
use mathlib.Core.List.{◌++◌, map}
use lib.ListN.{length, drop, take}
use Rattle.pots.proofs.back_each.Given as goal

abbrev pub invariant-loop-i : goal.invariant-loop-i
invariant-loop-i l = (length l.a ≡ 10) × (take l.i l.a ++ map (λ t. t - l.top) (drop l.i l.t-items) ≡ map (λ t. t - l.top) l.t-items)
