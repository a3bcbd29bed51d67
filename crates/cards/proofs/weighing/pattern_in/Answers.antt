-- `cards::weighing::pattern_in` meets its contract. Assumes nothing.
use native.Mathlib.Omega.{arith}
use Prim.Native.Nat.{ℕ, ◌*◌, ◌/◌, ◌%◌}
use mathlib.Core.Path.{ap}
use Rattle.cards.specs.Steps.{pattern_in, gathered}
use Rattle.cards.proofs.weighing.pattern_in.Goals as goal

pub returns : goal.returns
unfolding pattern_in gathered
returns c = record { is = ap (λ (m : ℕ). m * 134480385 / 16777216 % 16) c.marks_in.ensures.is; small = omega arith }
