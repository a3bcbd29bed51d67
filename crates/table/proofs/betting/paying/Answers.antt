-- `paying` meets its contract.
use Rattle.table.proofs.betting.paying.Goals as goal

pub returns : goal.returns
returns c = rw (c.paid.ensures, c.short_of-put.ensures, c.round_of.ensures) at c.acting.ensures
