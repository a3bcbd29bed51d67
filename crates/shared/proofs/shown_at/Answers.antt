-- `shown_at` meets its contract. Assumes nothing.
use Rattle.shared.proofs.Laws.{shown_is}
use Rattle.shared.proofs.shown_at.Goals as goal

pub returns : goal.returns
returns c = shown_is c.args.j c.args.amount c.shown_of.ensures.0 c.with_jackpot.ensures
