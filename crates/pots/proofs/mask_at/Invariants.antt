-- `mask_at` meets its contract. The invariant: m is the mask of the places walked.
-- Assumes nothing.
use Rattle.std.proofs.Common.{◌≡◌, ℕ, List, ◌++◌}
use Rattle.pots.specs.Heights.{mask_at}
use Rattle.pots.proofs.mask_at.Given as goal

abbrev pub invariant-loop-x : goal.invariant-loop-x
invariant-loop-x l = (done : List ℕ) × (l.x-iterator.iter.rest.now ++ done ≡ l.fn.xs) × (l.m ≡ mask_at done l.h)
