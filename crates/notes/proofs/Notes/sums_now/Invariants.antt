-- `Notes::sums_now` meets its contract: the sums so far with the sittings behind the place are those of all.
use Rattle.std.proofs.Common.{◌≡◌, drop}
use Rattle.notes.specs.Notes.{sums_from}
use Rattle.notes.proofs.Notes.sums_now.Given as goal

abbrev pub invariant-loop-i : goal.invariant-loop-i
invariant-loop-i l = sums_from l.s l.self l.i (drop l.i l.cs) ≡ sums_from l.initial.s l.self 0 l.cs
