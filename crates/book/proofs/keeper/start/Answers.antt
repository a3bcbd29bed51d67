-- `start` meets its contract: the stand-in opens a book, and nothing is kept. Assumes nothing.
use native.Mathlib.Omega.{arith}
use Rattle.paper.proofs.Sheets.{stand_in_good}
use Rattle.book.proofs.keeper.start.Goals as goal

pub opened-b-requires : goal.opened-b-requires
opened-b-requires c = stand_in_good

pub returns : goal.returns
returns c = record { book = c.opened-b.ensures.1; room = c.empty-z.ensures.1; lines = rw c.empty-z.ensures.0 (omega arith) }
