-- `longest` meets its contract: what any call writes lies in the trace.
use Rattle.stream.specs.Feeding.{Held}
use Rattle.std.proofs.Common.{length, ◌≤◌}
use Rattle.try_chops.proofs.served.longest.Given as goal

abbrev pub invariant-loop-i : goal.invariant-loop-i
invariant-loop-i l = Held l.clerk × (l.most ≤ length l.initial.trace)
