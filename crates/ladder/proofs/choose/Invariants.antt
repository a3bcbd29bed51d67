-- `ladder::choose` meets its contract: after k turns the number is how many choices of k there are. Assumes nothing.
use mathlib.Core.Path.{◌≡◌}
use Rattle.ladder.specs.Reckoned.{chosen_of}
use Rattle.ladder.proofs.choose.Given as goal

abbrev pub invariant-loop-k : goal.invariant-loop-k
invariant-loop-k g l = l.choices ≡ chosen_of l.n l.k
