-- `said` meets its contract, by its test.
use Rattle.picture.proofs.Tables.{answering_none}
use Rattle.picture.specs.Screen.{said_of}
use Rattle.picture.proofs.said.Goals as goal

pub returns-then-long : goal.returns-then-long
unfolding said_of
returns-then-long c = (rw c.if-long.true, answering_none)

pub returns : goal.returns
unfolding said_of
returns c = (rw c.if-long.false c.read_line.ensures.0, c.read_line.ensures.1)
