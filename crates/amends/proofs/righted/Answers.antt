-- `righted` meets its contract.
use Rattle.amends.proofs.Judging.{righted_yes, righted_no, refused_right}
use Rattle.amends.proofs.righted.Goals as goal

pub returns-then-p : goal.returns-then-p
returns-then-p c = righted_yes c.args.t c.args.n c.args.p c.if-p.true c.no_payout-none.ensures c.requires.1

pub returns : goal.returns
returns c = refused_right c.args.t c.args.n 13 c.requires.0 c.refused.ensures (righted_no c.args.t c.args.n c.args.p c.if-p.false)
