-- One, moved up to the suit.
use Rattle.counts.proofs.Gathered.{unit_is}
use Rattle.counts.proofs.seen.unit_of.Goals as goal

pub returns : goal.returns
returns c = let r = unit_is c.args.c in record { is = r.0; small = r.1 }
