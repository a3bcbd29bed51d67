-- `cards::choose::packed` meets its contract: what is packed so far are the cards from `i` on. Assumes nothing.
use mathlib.Core.Path.{◌≡◌}
use Prim.Native.Nat.{◌-◌, ◌≤◌, ◌<◌}
use lib.ListN.{length, drop}
use Rattle.cards.specs.Searching.{lows, units}
use Rattle.cards.proofs.choose.packed.Given as goal

abbrev pub invariant-loop-i : goal.invariant-loop-i
invariant-loop-i l = (l.at ≤ l.i) × (lows (length l.cards - l.i) l.n ≡ drop l.i l.cards) × (l.n < units (length l.cards - l.i))
