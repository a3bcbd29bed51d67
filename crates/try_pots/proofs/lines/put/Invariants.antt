-- `put` meets its contract: what is written lies within its room. Assumes nothing.
use Rattle.std.proofs.Common.{length, ◌≤◌}
use Rattle.try_pots.proofs.lines.put.Given as goal

abbrev pub invariant-loop-b : goal.invariant-loop-b
invariant-loop-b l = l.k ≤ length l.initial.out
