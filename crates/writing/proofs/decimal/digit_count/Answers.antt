-- `digit_count` meets its contract: what was counted and what is left to count make the whole.
use Rattle.text.proofs.Numbers.{count_last, count_none, count_on}
use Rattle.text.specs.Number.{digits}
use Prim.Native.Nat.{◌+◌, ◌-◌}
use mathlib.Core.Path.{refl}
use native.Mathlib.Omega.{arith}
use Rattle.writing.proofs.decimal.digit_count.Goals as goal

pub loop-k-init : goal.loop-k-init
unfolding digits
loop-k-init c = refl

pub returns-then-m-lt10 : goal.returns-then-m-lt10
returns-then-m-lt10 c = omega (arith, count_last (9 - c.loop-k.k) c.loop-k.m (omega arith))

pub loop-k-preserved : goal.loop-k-preserved
loop-k-preserved c = omega (arith, count_on (9 - c.loop-k.k) (9 - (c.loop-k.k + 1)) c.loop-k.m (omega arith) (omega arith))

pub returns : goal.returns
returns c = omega (arith, count_none (9 - c.loop-k.k) c.loop-k.m (omega arith))
