-- `banked::judged::total` meets its contract. Assumes nothing.
use Rattle.banked.specs.Rounds.{total_of}
use native.Mathlib.Omega.{arith}
use mathlib.Core.Path.{refl}
use Rattle.banked.proofs.judged.Seven.total.Goals as goal

pub returns : goal.returns
unfolding total_of
returns c = (refl, omega arith)
