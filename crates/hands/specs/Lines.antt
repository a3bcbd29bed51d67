-- No section of the paper: how the program `hands` reads a line, numbers with blanks between them. Assumes nothing.
use Rattle.std.specs.Prelude.{Bool, not, List, [], ◌∷◌, ◌++◌, ℕ, ◌+◌, ◌-◌, ◌*◌, min, ltb, leb, eqb, length, take, set, Ok, Err, Option, Some, None, unwrap_or}
use Rattle.laws.specs.Tests.{both, pick}
use Rattle.cards.specs.Order.{ranking_of, best_of}
use Rattle.cards.specs.Reading.{Reading, any_above, any_twice, reading_of}
use Rattle.cards.specs.declared.asked.NoHand.TheVariants.{NoCard, Repeat}
use Rattle.hands.specs.Answers.{reading_bytes}
use Rattle.hands.specs.declared.Line.{Line}

-- a line of which nothing has been read
abbrev pub no_line : Line
no_line = record { have = 0; word = None }

-- a number with one digit more; 255, which is no card, where it would be higher or the byte is no digit
unfoldable pub grown_of : ℕ → ℕ → ℕ
grown_of w b = pick (both (leb 48 b) (leb b 57)) (min (w * 10 + (b - 48)) 255) 255

-- a line of so many numbers
abbrev pub line_of : ℕ → Line
line_of n = record { have = n; word = None }

-- the line after the number that has begun, if any; there is room for so many
abbrev pub behind : Line → ℕ → Option ℕ → Line
behind l room (Some w) = line_of (pick (ltb l.have room) (l.have + 1) l.have)
behind l room None = l

unfoldable pub ended_to : Line → ℕ → Line
ended_to l room = behind l room l.word

-- and the cards: past the end none is kept
abbrev pub with_word : List ℕ → ℕ → Option ℕ → List ℕ
with_word cards at (Some w) = set cards at w
with_word cards at None = cards

unfoldable pub cards_to : Line → List ℕ → List ℕ
cards_to l cards = with_word cards l.have l.word

-- the line after a byte: a blank ends a number, any other belongs to one, which begins at 0
unfoldable pub taken_to : Line → ℕ → ℕ → Line
taken_to l room b = pick (eqb b 32) (ended_to l room) (record { have = l.have; word = Some (grown_of (unwrap_or l.word 0) b) })

unfoldable pub cards_with : Line → List ℕ → ℕ → List ℕ
cards_with l cards b = pick (eqb b 32) (cards_to l cards) cards

-- the hand of five cards of the 52: any other number of them or a card above 51 is refused with 2, then a repeat with 8
unfoldable pub five_of : List ℕ → Reading
five_of cards = pick (both (eqb (length cards) 5) (not (any_above cards))) (pick (any_twice cards) (Err Repeat) (Ok (best_of (ranking_of 52) cards))) (Err NoCard)

-- the answer about five cards, or about seven of a deck
unfoldable pub read_by : Bool → ℕ → List ℕ → Reading
read_by five deck cards = pick five (five_of cards) (reading_of deck cards)

-- the answer to a line, with its LF; told whether five cards are asked about, the deck, and whether the place is asked for. Both readers give it
unfoldable pub answer_of : Bool → ℕ → Bool → Line → List ℕ → List ℕ
answer_of five deck place l cards = reading_bytes place (read_by five deck (take (ended_to l (length cards)).have (cards_to l cards))) ++ (10 ∷ [])
