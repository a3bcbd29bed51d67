-- One card more.
use native.Mathlib.Omega.{arith}
use Rattle.counts.proofs.Gathered.{see_is}
use Rattle.counts.proofs.seen.see.Goals as goal

pub returns : goal.returns
returns c =
    let a = c.args in
    record { is = see_is a.n a.c c.bit_of.result c.unit_of.result c.bit_of.ensures c.unit_of.ensures.is; small = omega (arith, c.unit_of.ensures.small) }
