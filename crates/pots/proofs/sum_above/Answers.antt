-- `sum_above` meets its contract.
-- Assumes nothing.
use Rattle.std.proofs.Common.{◌≡◌, ◌<◌, ◌-◌, ◌∙◌, sum_by, rules, arith}
use Rattle.pots.proofs.Backward.{above_is, above_le}
use Rattle.pots.proofs.sum_above.Goals as goal

pub sum-requires-clause-fits : goal.sum-requires-clause-fits
sum-requires-clause-fits c =
    let a = c.args in
    let l : sum_by (λ t. t - a.top) a.totals < 4294967296 = omega (arith, above_is a.totals a.top, above_le a.totals a.top, c.requires) in
    search rules

pub returns : goal.returns
returns c =
    let a = c.args in
    let e : c.sum.result ≡ sum_by (λ t. t - a.top) a.totals = search rules in
    e ∙ above_is a.totals a.top
