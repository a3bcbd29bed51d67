-- Who is looked for among the chairs (`want_of`, Chairs). Assumes nothing.
use Rattle.std.specs.Prelude.{ℕ, Bool}

-- a live hand, one with chips, a seat with chips; a seat that owes the mark, where it is the only live one with chips (`alone`) or not; a hand for which a card
-- was entered; a live hand without all the cards of the game
pub data Who : Type 0 where
  Live : Who
  LiveWithChips : Who
  Chips : Who
  Owing : (mark : ℕ) (alone : Bool) → Who
  Holding : (card : ℕ) → Who
  Bare : (game : ℕ) → Who
