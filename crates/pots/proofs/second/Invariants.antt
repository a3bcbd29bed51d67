-- `second` meets its contract. The invariant: m and s are the largest and the second largest of the places walked.
-- Assumes nothing.
use Rattle.std.proofs.Common.{◌≡◌, ℕ, List, ◌++◌}
use Rattle.laws.specs.Lists.{max_of}
use Rattle.pots.specs.Levels.{second_of}
use Rattle.pots.proofs.second.Given as goal

abbrev pub invariant-loop-x : goal.invariant-loop-x
invariant-loop-x l = (done : List ℕ) × (l.x-iterator.iter.rest.now ++ done ≡ l.fn.xs) × (l.m ≡ max_of done) × (l.s ≡ second_of done)
