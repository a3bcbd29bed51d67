-- `total` meets its contract.
-- Assumes nothing.
use Rattle.std.proofs.Common.{◌≡◌, ◌<◌, ◌∙◌, sum, rules, arith}
use Rattle.pots.proofs.Backward.{sum_is}
use Rattle.pots.proofs.hand.total.Goals as goal

pub sum-requires-clause-fits : goal.sum-requires-clause-fits
sum-requires-clause-fits c =
    let xs = c.args.xs in
    let l : sum xs < 4294967296 = omega (arith, sum_is xs, c.requires) in
    search rules

pub returns : goal.returns
returns c =
    let xs = c.args.xs in
    let e : c.sum.result ≡ sum xs = search rules in
    e ∙ sum_is xs
