-- `share_out` meets its contract. The invariant: what is written and the shares still to come are those of all.
-- Assumes nothing.
use mathlib.Core.Path.{◌≡◌}
use mathlib.Core.List.{◌++◌}
use lib.ListN.{length, drop, take}
use Rattle.pots.specs.Settle.{share_out}
use Rattle.pots.proofs.settle.share_out.Given as goal

abbrev pub invariant-loop-i : goal.invariant-loop-i
invariant-loop-i l = (length l.a ≡ 10) × (take l.i l.a ++ share_out l.base l.left (drop l.i l.w-items) ≡ share_out l.base l.odd l.w-items)
