-- `pots::pots_of` meets its contract: the pots up to the top.
-- Assumes nothing.
use Rattle.pots.proofs.pots_of.Goals as goal

pub returns : goal.returns
returns c = c.pots_to.ensures c.args.live c.live_totals-lives.ensures
