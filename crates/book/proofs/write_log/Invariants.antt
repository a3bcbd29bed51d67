-- `book::write_log` meets its contract: each entry is within the room that is left. Assumes nothing.
use Rattle.std.proofs.Common.{length, ◌≡◌, ◌≤◌}
use Rattle.book.proofs.write_log.Given as goal

abbrev pub invariant-loop-k : goal.invariant-loop-k
invariant-loop-k l = (length l.out ≡ 16384) × (l.at ≤ 16384)
