-- `accept` meets its contract. The loop has counted j rows anew.
use Rattle.std.proofs.Common.{◌≡◌}
use Rattle.tray.proofs.Front.{front_by}
use Rattle.rows.specs.Columns.{recount}
use Rattle.rows.proofs.accept.Given as goal

abbrev pub invariant-loop-j : goal.invariant-loop-j
invariant-loop-j l = l.rows ≡ front_by l.j (recount l.s.counts) l.initial.rows
