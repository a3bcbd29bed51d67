-- `pots::pots_to` meets its contract. The invariant: the pots up to the level lo are written (`Filled`), and low is the chips up to it.
-- Assumes nothing.
use mathlib.Core.Path.{◌≡◌}
use Prim.Native.Nat.{ℕ, ◌≤◌, ◌-◌}
use Rattle.pots.specs.Heights.{chips_over, live_of}
use Rattle.pots.proofs.Filled.{Filled}
use Rattle.pots.proofs.pots_to.Given as goal

abbrev pub invariant-loop-lo : goal.invariant-loop-lo
invariant-loop-lo l =
    (l.lo ≤ l.top) × (live : ℕ) × (l.lives ≡ live_of l.totals live) × Filled 9 l.totals live l.list l.n l.lo × (l.low ≡ chips_over l.totals 0 l.lo)

abbrev pub decreases-loop-lo : goal.decreases-loop-lo
decreases-loop-lo l = l.top - l.lo
