-- `digits_value` meets its contract: what is left, behind the value so far, is what the whole is.
use Rattle.text.proofs.Numbers.{room}
use native.Mathlib.Omega.{arith}
use Rattle.text.proofs.decimal.digits_value.Goals as goal

pub overflow_mul-v : goal.overflow_mul-v
overflow_mul-v c = omega (arith, room c.loop-b.v 0 c.loop-b.b-index c.loop-b.invariant.0 (omega arith) (omega arith))

pub overflow_add-v : goal.overflow_add-v
overflow_add-v c = omega (arith, room c.loop-b.v c.from.result c.loop-b.b-index c.loop-b.invariant.0 (omega arith) (omega arith))
