-- `pots::stand` meets its contract: the pots up to the top, and what the totals hold above it.
-- Assumes nothing.
use Rattle.pots.proofs.Filled.{top_is}
use Rattle.pots.proofs.Returns.{back_above}
use Rattle.pots.proofs.stand.Goals as goal

pub returns : goal.returns
returns c =
    let a = c.args in
    let v = c.live_totals-lives.ensures in
    let p = c.pots_to-pots.ensures a.live v in
    let t = top_is a.totals _ a.live c.top_of-top.result v c.top_of-top.ensures in
    (p.0, p.1, p.2, back_above a.totals a.live c.top_of-top.result c.sum_above-back.result t c.sum_above-back.ensures)
