-- `shown_with` meets its contract.
use native.Mathlib.Omega.{arith}
use Rattle.desk.proofs.Laws.{made_shown}
use Rattle.desk.proofs.quiet.shown_with.Goals as goal

pub returns : goal.returns
returns c =
    let a = c.args in
    let h = c.requires in
    let k = h.4 in
    made_shown a.n a.code a.t a.paid (k.count, k.list, k.few) k.back c.payout_shown-p.ensures (c.from.ensures, omega (arith, c.from.ensures, c.ranges.code)) h.0 h.1 h.2 h.3
