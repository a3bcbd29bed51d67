-- `line_with` meets its contract, by what the number is.
use Rattle.picture.proofs.Tables.{answering, answering_none}
use borrow.Author.Tests.{le-leb, lt-leb}
use Rattle.picture.proofs.reading.line_with.Goals as goal

pub returns-in_default : goal.returns-in_default
returns-in_default c = (rw c.in_default.is, answering_none)

pub returns-then-v-most : goal.returns-then-v-most
returns-then-v-most c = (rw (c.in-Some.is, le-leb _ _ c.if-v-most.true), answering _ _ _ c.requires.0 c.requires.1 c.if-v-most.true)

pub returns : goal.returns
returns c = (rw (c.in-Some.is, lt-leb _ _ c.if-v-most.false), answering_none)
