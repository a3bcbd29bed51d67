-- `columns_of` meets its contract. The loop has put i rows into the columns.
-- Assumes nothing.
use Rattle.std.proofs.Common.{◌≡◌}
use Rattle.rows.specs.Columns.{columns_to}
use Rattle.rows.proofs.columns_of.Given as goal

abbrev pub invariant-loop-i : goal.invariant-loop-i
invariant-loop-i l = l.columns ≡ columns_to l.i l.rows
