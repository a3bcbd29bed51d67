-- `pays_all` meets its contract. The invariant: each sitting below s is paid exactly.
-- Assumes nothing.
use Rattle.std.proofs.Common.{◌≡◌, true, eqb, get_or}
use Rattle.tray.specs.Counting.{all_to}
use Rattle.tray.specs.Proposal.{worth_given}
use Rattle.tray.proofs.pays_all.Given as goal

abbrev pub invariant-loop-s : goal.invariant-loop-s
invariant-loop-s l = all_to l.s (λ k. eqb (worth_given l.worths l.p k) (get_or l.paid k 0)) ≡ true
