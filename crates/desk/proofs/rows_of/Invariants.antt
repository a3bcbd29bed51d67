-- `rows_of` meets its contract.
use Rattle.desk.specs.Desk.{rows_of}
use lib.ListN.{length, take, drop}
use mathlib.Core.List.{◌++◌}
use mathlib.Core.Path.{◌≡◌}
use Rattle.desk.proofs.rows_of.Given as goal

abbrev pub invariant-loop-i : goal.invariant-loop-i
invariant-loop-i l =
    (length l.rows ≡ 10) × (take l.i l.rows ++ rows_of (drop l.i l.sittings) (drop l.i l.paid) ≡ rows_of l.sittings l.paid)
