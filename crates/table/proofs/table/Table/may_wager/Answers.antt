-- `Table::may_wager` meets its contract.
use Rattle.table.specs.Betting.{is_wager}
use Rattle.table.proofs.table.Table.may_wager.Goals as goal

pub returns : goal.returns
unfolding is_wager
returns c = rw (c.may_raise.ensures, c.both-enough.ensures, c.both.ensures, c.either.ensures, c.reaches_lift-full.ensures, c.short_of-put.ensures, c.round_of.ensures) at c.both-2.ensures
