-- `write_rows` meets its contract.
use Rattle.fresh.specs.Reading.{rowed_from, index_from}
use Rattle.records.specs.Stored.{entry_in}
use Rattle.table.specs.Take.{Sound}
use mathlib.Core.Path.{◌≡◌}
use lib.ListN.{length}
use Prim.Native.Nat.{◌≤◌}
use Rattle.fresh.proofs.write_rows.Given as goal

abbrev pub invariant-loop-k : goal.invariant-loop-k
invariant-loop-k l =
    (l.p ≡ rowed_from l.initial.p (entry_in l.log) l.k) × (l.index ≡ index_from l.initial.p (entry_in l.log) l.k l.initial.index) × Sound l.p.table × (l.p.hands ≤ l.k) × (length l.index ≡ length l.initial.index)
