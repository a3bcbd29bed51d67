-- `pay_out` meets its contract: what is paid and what is unclaimed are what is due.
-- Assumes nothing.
use mathlib.Core.Path.{ap}
use native.Mathlib.Omega.{arith}
use Rattle.laws.specs.Lists.{sum_of}
use Rattle.pots.proofs.Hands.{paid_and_unclaimed}
use Rattle.pots.proofs.hand.pay_out.Goals as goal

pub total-requires-2 : goal.total-requires-2
total-requires-2 c =
    let a = c.args in
    let e = ap sum_of c.live_totals-paid.ensures in
    let q = paid_and_unclaimed a.due a.here in
    omega (arith, e, q, c.requires)

pub overflow_sub-unclaimed : goal.overflow_sub-unclaimed
overflow_sub-unclaimed c =
    let a = c.args in
    let e = ap sum_of c.live_totals-paid.ensures in
    let q = paid_and_unclaimed a.due a.here in
    omega (arith, e, q, c.total-2.ensures, c.total.ensures)

pub returns : goal.returns
returns c =
    let a = c.args in
    let e = ap sum_of c.live_totals-paid.ensures in
    let q = paid_and_unclaimed a.due a.here in
    (c.live_totals-paid.ensures, omega (arith, e, q, c.total-2.ensures, c.total.ensures))
