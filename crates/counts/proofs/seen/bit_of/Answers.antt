-- One, moved up to the card.
use Rattle.counts.proofs.Gathered.{bit_is}
use Rattle.counts.proofs.seen.bit_of.Goals as goal

pub returns : goal.returns
returns c = bit_is c.args.c c.requires
