-- `last_hand` meets its contract. From the reader's place on the last `hand` is that of the whole log.
use Rattle.std.proofs.Common.{◌≡◌, ◌-◌, ◌≤◌, length, ℕ}
use Rattle.records.specs.Reading.{last_on, last_hand}
use Rattle.records.proofs.last_hand.Given as goal

abbrev pub invariant-loop-r : goal.invariant-loop-r
invariant-loop-r l =
    (l.reader.log.now ≡ l.log) × ((f : ℕ) × ((last_on f l.log l.reader.at l.last ≡ last_hand l.log) × (length l.log - l.reader.at ≤ f)))

abbrev pub decreases-loop-r : goal.decreases-loop-r
decreases-loop-r l = length l.log - l.reader.at
