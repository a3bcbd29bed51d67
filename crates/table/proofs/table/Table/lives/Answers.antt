-- `Table::lives` meets its contract.
use Rattle.table.specs.Betting.{live_hands}
use Rattle.table.proofs.table.Table.lives.Goals as goal

pub returns : goal.returns
unfolding live_hands
returns c = c.lives.ensures
