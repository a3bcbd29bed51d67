-- `live_totals` meets its contract. The invariant: what is written and the live totals still to come are those of all.
-- Assumes nothing.
use mathlib.Core.Path.{◌≡◌}
use mathlib.Core.List.{◌++◌}
use lib.ListN.{length, drop, take}
use Rattle.pots.specs.Heights.{live_of}
use Rattle.pots.proofs.live_totals.Given as goal

abbrev pub invariant-loop-i : goal.invariant-loop-i
invariant-loop-i l = (length l.a ≡ 10) × (take l.i l.a ++ live_of (drop l.i l.t-items) l.rest ≡ live_of l.t-items l.live)
