-- What a machine's numbers and arrays have by their types, so that they can be read back: a word is below 2 ^ 32, an array of four cards has four. Assumes nothing.
use Rattle.std.specs.Prelude.{ℕ, ◌<◌, ◌^◌, ◌≡◌}
use Rattle.laws.specs.Lists.{All}
use Rattle.chairs.specs.declared.Chair.{Chair}
use Rattle.stream.specs.declared.Clerk.{Clerk}
use Rattle.packed.specs.Layout.{chair_words, head_words, cards_four, cards_five}

pub record IsWord (w : ℕ) : Type 0 where
  pub below : w < 2 ^ 32

pub record ChairFits (c : Chair) : Type 0 where
  pub words : All IsWord (chair_words c)
  pub cards : c.hole.cards ≡ cards_four c.hole.cards

pub record HeadFits (c : Clerk) : Type 0 where
  pub words : All IsWord (head_words c.table c.fill)
  pub cards : c.table.board.cards ≡ cards_five c.table.board.cards
