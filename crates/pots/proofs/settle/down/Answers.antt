-- `down` meets its contract: a number rounded down is no larger.
-- Assumes nothing.
use Prim.Native.Nat.{◌<◌}
use borrow.Author.Rules.{rules}
use native.Mathlib.Nat.{div-mul-le_self, lt_of_le_of_lt}
use Rattle.pots.proofs.settle.down.Goals as goal

pub overflow_mul-result : goal.overflow_mul-result
overflow_mul-result c =
    let b : c.args.x < 4294967296 = search rules in
    record { fits = lt_of_le_of_lt (div-mul-le_self c.args.x c.args.step) b }
