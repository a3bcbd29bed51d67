-- `put_pots` meets its contract: what is written lies within its room. Assumes nothing.
use Rattle.std.proofs.Common.{length, ◌≤◌}
use Rattle.try_pots.proofs.lines.put_pots.Given as goal

abbrev pub invariant-loop-q : goal.invariant-loop-q
invariant-loop-q l = l.k ≤ length l.initial.out
