-- The book between two bytes: the book holds, what is kept of the unfinished lines fits its buffer, and they are not whole yet. Assumes nothing.
use Rattle.std.specs.Prelude.{◌<◌}
use Rattle.lines.specs.Kept.{Room, lines_of}
use Rattle.ledger.specs.Keeping.{Held}
use Rattle.book.specs.declared.keeper.Keeper.{Keeper}

pub record Ready (k : Keeper) : Type 0 where
  pub book : Held k.book
  pub room : Room k.fill
  pub lines : k.fill.lines < lines_of k.opened
