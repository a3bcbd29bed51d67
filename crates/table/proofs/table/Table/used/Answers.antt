-- `Table::used` meets its contract.
use Rattle.table.specs.Dealing.{in_this_hand}
use Rattle.table.proofs.table.Table.used.Goals as goal

pub returns : goal.returns
unfolding in_this_hand
returns c = rw (c.either-second.ensures, c.lies-2.ensures, c.either-first.ensures, c.lies.ensures, c.holders-k.ensures.0, c.holders-k.ensures.1) at c.either.ensures
