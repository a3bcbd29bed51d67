-- `put_seats` meets its contract: what is written lies within its room. Assumes nothing.
use Rattle.std.proofs.Common.{length, ◌≤◌}
use Rattle.try_pots.proofs.lines.put_seats.Given as goal

abbrev pub invariant-loop-x : goal.invariant-loop-x
invariant-loop-x l = l.k ≤ length l.initial.out
