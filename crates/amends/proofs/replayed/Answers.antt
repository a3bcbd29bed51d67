-- `replayed` meets its contract.
use Rattle.amends.proofs.Judging.{refused_right, replayed_none, replayed_read}
use Rattle.amends.proofs.replayed.Goals as goal

pub returns-in-Err : goal.returns-in-Err
returns-in-Err c = refused_right c.args.t c.args.n 13 c.requires.0 c.refused.ensures (replayed_none c.args.t c.args.n c.args.log.now c.in-Err.is)

pub returns-in-Ok : goal.returns-in-Ok
returns-in-Ok c = (replayed_read c.args.t c.args.n c.args.log.now c.in-Ok.is c.short_of.ensures c.replay.ensures.0 c.righted.ensures.0, c.righted.ensures.1, c.righted.ensures.2)
