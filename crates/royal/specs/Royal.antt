-- Request No. 7: "A royal flush on five board cards in which two hole cards are needed, held by a live seat with all cards entered at `settle`". The five are two of
-- the hole with three of the board: as all cards are different, neither of the two can be spared. Assumes nothing.
use Rattle.std.specs.Prelude.{ℕ, Bool, false, List, [], ◌∷◌, eqb, ltb}
use Rattle.laws.specs.Tests.{both, either}
use Rattle.cards.specs.Hands.{ranking52, value_of}
use Rattle.cards.specs.Omaha.{from_both}
use Rattle.chairs.specs.Chairs.{count_of, hole_of}
use Rattle.chairs.specs.declared.Chair.{Chair}
use Rattle.table.specs.Settle.{is_shown}
use Rattle.table.specs.declared.table.Table.{Table}
use Rattle.table.specs.declared.table.Board.{Board}

-- "straight flush (royal on top)": the straight flush whose highest card is the ace. In the 32-card deck these are the same five cards, and 10-9-8-7-A is none
unfoldable pub is_royal : List ℕ → Bool
is_royal five = both (eqb (value_of ranking52 five).class 0) (eqb (value_of ranking52 five).r1 14)

-- one of some choices of five is
abbrev pub any_royal : List (List ℕ) → Bool
any_royal [] = false
any_royal (m ∷ ms) = either (is_royal m) (any_royal ms)

-- exactly two of the hole cards with exactly three of the board, with two hole cards and with four
unfoldable pub royal_in : List ℕ → List ℕ → Bool
royal_in hole board = any_royal (from_both 2 3 hole board)

-- "held by a live seat with all cards entered"
unfoldable pub holds_royal : ℕ → Board → Chair → Bool
holds_royal game b c = both (is_shown game c) (royal_in (hole_of c) b.cards)

unfoldable pub royal_seats : ℕ → Board → List Chair → ℕ
royal_seats game b cs = count_of (holds_royal game b) cs

-- "on five board cards"
unfoldable pub royal_now : Table → Bool
royal_now t = both (eqb t.board.count 5) (ltb 0 (royal_seats t.sheet.game t.board t.chairs))
