-- `product` meets its contract: two numbers below 2 ^ 32 have a product below 2 ^ 64.
-- Assumes nothing.
use Prim.Native.Nat.{◌≤◌, ◌*◌}
use mathlib.Core.Path.{refl, ap₂}
use native.Mathlib.Nat.{mul-le-mul, lt_of_le_of_lt, le_of_eq, le_trans}
use native.Mathlib.Omega.{arith}
use lib.Dec.{lit<}
use Rattle.tray.proofs.product.Goals as goal

pub overflow_mul-result : goal.overflow_mul-result
overflow_mul-result c =
    let a : c.from.result ≤ 4294967295 = omega (arith, c.from.ensures, c.ranges.k.fits) in
    let b : c.from-2.result ≤ 4294967295 = omega (arith, c.from-2.ensures, c.ranges.worth.fits) in
    record { fits = lt_of_le_of_lt (mul-le-mul {n₂ = 4294967295} {m₂ = 4294967295} a b) (lit< tt) }

pub returns : goal.returns
returns c =
    let a : c.args.k ≤ 4294967295 = omega (arith, c.ranges.k.fits) in
    let e = ap₂ ◌*◌ c.from.ensures c.from-2.ensures in
    (e, le_trans (le_of_eq e) (mul-le-mul a (le_of_eq refl)))
