-- `under` meets its contract: each sitting has as many chips there as its total and the height allow.
-- Assumes nothing.
use Rattle.std.proofs.Common.{◌≡◌, ◌<◌, ◌∙◌, min, sum_by, rules, arith}
use Rattle.pots.proofs.Backward.{under_is}
use Rattle.pots.proofs.Chips.{chips_le}
use Rattle.pots.proofs.under.Goals as goal

pub sum-requires-clause-fits : goal.sum-requires-clause-fits
sum-requires-clause-fits c =
    let a = c.args in
    let l : sum_by (λ t. min t a.h) a.totals < 4294967296 = omega (arith, under_is a.totals a.h, chips_le a.totals 0 a.h, c.requires) in
    search rules

pub returns : goal.returns
returns c =
    let a = c.args in
    let e : c.sum.result ≡ sum_by (λ t. min t a.h) a.totals = search rules in
    e ∙ under_is a.totals a.h
