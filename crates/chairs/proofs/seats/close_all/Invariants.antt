-- `close_all` meets its contract: the first chairs are closed.
use mathlib.Core.Path.{◌≡◌}
use Rattle.chairs.proofs.Laws.{close_to}
use Rattle.chairs.proofs.seats.close_all.Given as goal

abbrev pub invariant-loop-i : goal.invariant-loop-i
invariant-loop-i l = l.c-items ≡ close_to l.i l.initial.c-items l.paid
