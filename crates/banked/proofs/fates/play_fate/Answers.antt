-- `banked::fates::play_fate` meets its contract. Assumes nothing.
use Rattle.banked.specs.Fates.{play_fate}
use native.Mathlib.Omega.{arith}
use mathlib.Core.Path.{refl}
use Rattle.banked.proofs.fates.play_fate.Goals as goal

pub returns-in-Greater : goal.returns-in-Greater
unfolding play_fate
returns-in-Greater c = rw c.in-Greater.is (refl, omega arith)

pub returns-in-Equal : goal.returns-in-Equal
unfolding play_fate
returns-in-Equal c = rw c.in-Equal.is (refl, tt)

pub returns-in-Less : goal.returns-in-Less
unfolding play_fate
returns-in-Less c = rw c.in-Less.is (refl, tt)
