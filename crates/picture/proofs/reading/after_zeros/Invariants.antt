-- `after_zeros` meets its contract: what is left has behind its zeros what the whole has.
use mathlib.Core.Path.{◌≡◌}
use lib.ListN.{length}
use Rattle.picture.specs.Lines.{after_zeros}
use Rattle.picture.proofs.reading.after_zeros.Given as goal

abbrev pub invariant-loop-left : goal.invariant-loop-left
invariant-loop-left l = after_zeros l.left ≡ after_zeros l.part

abbrev pub decreases-loop-left : goal.decreases-loop-left
decreases-loop-left l = length l.left
