-- `lies_in` meets its contract: what was counted with what lies behind the place is all.
use Rattle.std.proofs.Common.{◌≡◌, ◌+◌, ◌*◌, ◌≤◌, drop}
use Rattle.notes.specs.Notes.{lies_in}
use Rattle.notes.proofs.lies_in.Given as goal

abbrev pub invariant-loop-c : goal.invariant-loop-c
invariant-loop-c l = record {
  small : l.n ≤ l.c-index * 4294967295;
  all : l.n + lies_in (drop l.c-index l.cs) ≡ lies_in l.cs;
}
