-- `read_on` meets its contract. The reader stands where k records lead, and those are read.
use Rattle.std.proofs.Common.{◌≡◌}
use Rattle.table.specs.Take.{Sound}
use Rattle.fresh.specs.Reading.{read_to, place_to}
use Rattle.fresh.proofs.read_on.Given as goal

abbrev pub invariant-loop-k : goal.invariant-loop-k
invariant-loop-k l =
    (l.p ≡ read_to l.initial.p l.log l.at l.e l.k) × Sound l.p.table × (l.reader.log.now ≡ l.log) × (l.reader.at ≡ place_to l.log l.k)
