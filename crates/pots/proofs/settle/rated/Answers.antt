-- `rated` meets its contract: the product fits in 64 bits, and a thousandth of it in 32.
-- Assumes nothing.
use Prim.Native.Nat.{◌*◌, ◌/◌, ◌≤◌}
use borrow.Author.Rules.{rules}
use native.Mathlib.Nat.{mul-le-mul, lt_of_le_of_lt, div-le_of_le-mul}
use lib.Dec.{lit<}
use Rattle.pots.proofs.settle.rated.Goals as goal

pub overflow_mul-whole : goal.overflow_mul-whole
overflow_mul-whole c = record { fits = lt_of_le_of_lt (mul-le-mul {n₂ = 100000000} {m₂ = 100} c.requires.0 c.requires.1) (lit< tt) }

pub overflow_cast-result : goal.overflow_cast-result
overflow_cast-result c =
    let q : c.args.amount * c.args.rate / 1000 ≤ 10000000 = div-le_of_le-mul 1000 (mul-le-mul {n₂ = 100000000} {m₂ = 100} c.requires.0 c.requires.1) in
    search rules
