-- `settle_all` meets its contract: in front of the place the accounts are settled, behind it they are still to come.
use Rattle.std.proofs.Common.{◌≡◌, ◌++◌, length, take, drop}
use Rattle.notes.specs.Notes.{settle_all}
use Rattle.notes.proofs.settle_all.Given as goal

abbrev pub invariant-loop-i : goal.invariant-loop-i
invariant-loop-i l = record {
  size : length l.all ≡ 10;
  settled : take l.i l.all ++ settle_all (drop l.i l.all) (drop l.i l.cs) (drop l.i l.paid) ≡ settle_all l.initial.all l.cs l.paid;
}
