-- `hear_part` meets its contract: at each turn the part is heard up to `from`.
use Rattle.std.proofs.Common.{length, ◌-◌, ◌≤◌}
use Rattle.output.proofs.hear_part.Given as goal

abbrev pub invariant-loop-from : goal.invariant-loop-from
invariant-loop-from g l = record {
  held : g.L.Listener.Held l.l;
  within : l.from ≤ length l.part;
  heard : g.L.Listener.Heard l.initial.l l.part l.from l.l;
}

abbrev pub decreases-loop-from : goal.decreases-loop-from
decreases-loop-from g l = length l.part - l.from
