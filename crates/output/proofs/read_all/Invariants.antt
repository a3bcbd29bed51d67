-- `read_all` meets its contract: what is true of the listener between two calls is true before each turn.
use Rattle.output.proofs.read_all.Given as goal

abbrev pub invariant-loop : goal.invariant-loop
invariant-loop g l = g.L.Listener.Held l.l
