-- Document 01, "The table sheet and the entries": the ranges of every number, and so what gets code 2, and of the sheet's numbers 11. Assumes nothing.
use Rattle.std.specs.Prelude.{ℕ, Bool, true, false, not, List, [], ◌∷◌, get_or, leb, ltb, eqb}
use Rattle.laws.specs.Tests.{both, either, pick}
use Rattle.paper.specs.declared.Sheet.{Sheet}
use Rattle.paper.specs.declared.Span.{Span}
use Rattle.paper.specs.declared.KindRow.{KindRow}
use Rattle.paper.specs.declared.Numbers.{Numbers}
use Rattle.paper.specs.declared.Entry.{Entry}
use Rattle.paper.specs.declared.Entry.TheVariants.{Sit, Leave, Hand, Hole, Fold, Check, Call, Wager, Board, Dead, Settle, Void}

-- lo to hi
abbrev pub between : ℕ → ℕ → ℕ → Bool
between lo hi x = both (leb lo x) (leb x hi)

-- each of some tests holds
abbrev pub all_of : List Bool → Bool
all_of [] = true
all_of (t ∷ []) = t
all_of (t ∷ u ∷ ts) = both t (all_of (u ∷ ts))

-- ---- the sheet

-- its numbers in the order of its lines, and the sheet of such numbers
abbrev pub sheet_values : Sheet → List ℕ
sheet_values s = s.seats ∷ s.small ∷ s.big ∷ s.rate ∷ s.cap ∷ s.step ∷ s.game ∷ s.deck ∷ s.drop ∷ []

abbrev pub sheet_by : List ℕ → Sheet
sheet_by vs =
    record {
      seats = get_or vs 0 0;
      small = get_or vs 1 0;
      big = get_or vs 2 0;
      rate = get_or vs 3 0;
      cap = get_or vs 4 0;
      step = get_or vs 5 0;
      game = get_or vs 6 0;
      deck = get_or vs 7 0;
      drop = get_or vs 8 0;
    }

-- request No. 5: "A seventh sheet line `game` is 2 or 4", the number of hole cards
abbrev pub is_game : ℕ → Bool
is_game x = either (eqb x 2) (eqb x 4)

-- request No. 6: "An eighth sheet line `deck` is 52 or 32; 32 with `game` 4 is a bad sheet"
abbrev pub is_deck : ℕ → Bool
is_deck x = either (eqb x 52) (eqb x 32)

abbrev pub dealt_from : ℕ → ℕ → Bool
dealt_from game deck = all_of (is_game game ∷ is_deck deck ∷ not (both (eqb deck 32) (eqb game 4)) ∷ [])

-- what the house takes of a hand: rate (0 to 100, thousandths), cap (0 to 1,000,000); request No. 3: "a sixth sheet line `step` (1 to 1,000)";
-- request No. 7: "`drop` units (ninth sheet line, 0 to 1,000)"
abbrev pub is_charge : ℕ → ℕ → ℕ → ℕ → Bool
is_charge rate cap step drop = all_of (leb rate 100 ∷ leb cap 1000000 ∷ between 1 1000 step ∷ leb drop 1000 ∷ [])

-- seats (2 to 10), small, big (1 ≤ small ≤ big ≤ 10,000). All that is asked of a sheet's numbers, one by one and of some together, stands here
unfoldable pub is_sheet : Sheet → Bool
is_sheet s =
    all_of
    (between 2 10 s.seats
    ∷ leb 1 s.small
    ∷ leb s.small s.big
    ∷ leb s.big 10000
    ∷ is_charge s.rate s.cap s.step s.drop
    ∷ dealt_from s.game s.deck
    ∷ [])

-- a sheet that stands in where none is read yet
abbrev pub stand_in : Sheet
stand_in = sheet_by (2 ∷ 1 ∷ 1 ∷ 0 ∷ 0 ∷ 1 ∷ 2 ∷ 52 ∷ 0 ∷ [])

-- ---- the numbers of an entry

-- a used seat is 1 to `seats`
unfoldable pub is_seat : Sheet → ℕ → Bool
is_seat sheet s = between 1 sheet.seats s

-- a card is 0 to 51; request No. 6: with `deck` 32 "cards seven to ace only (20 to 51; others get code 2)"
abbrev pub least_card : ℕ → ℕ
least_card deck = pick (eqb deck 32) 20 0

abbrev pub is_card : ℕ → ℕ → Bool
is_card deck k = between (least_card deck) 51 k

-- ---- the table of the twelve kinds

-- the column `do`: the words, as bytes
abbrev pub kind_names : List (List ℕ)
kind_names =
    (115 ∷ 105 ∷ 116 ∷ [])
    ∷ (108 ∷ 101 ∷ 97 ∷ 118 ∷ 101 ∷ [])
    ∷ (104 ∷ 97 ∷ 110 ∷ 100 ∷ [])
    ∷ (104 ∷ 111 ∷ 108 ∷ 101 ∷ [])
    ∷ (102 ∷ 111 ∷ 108 ∷ 100 ∷ [])
    ∷ (99 ∷ 104 ∷ 101 ∷ 99 ∷ 107 ∷ [])
    ∷ (99 ∷ 97 ∷ 108 ∷ 108 ∷ [])
    ∷ (119 ∷ 97 ∷ 103 ∷ 101 ∷ 114 ∷ [])
    ∷ (98 ∷ 111 ∷ 97 ∷ 114 ∷ 100 ∷ [])
    ∷ (100 ∷ 101 ∷ 97 ∷ 100 ∷ [])
    ∷ (115 ∷ 101 ∷ 116 ∷ 116 ∷ 108 ∷ 101 ∷ [])
    ∷ (118 ∷ 111 ∷ 105 ∷ 100 ∷ [])
    ∷ []

-- the column `uses`: for a and b whether the number is used, and its least and greatest (of a card the deck's); for the seat whether it is used
abbrev none : Span
none = record { used = false; card = false; least = 0; most = 0 }

abbrev from_to : ℕ → ℕ → Span
from_to lo hi = record { used = true; card = false; least = lo; most = hi }

abbrev card : Span
card = record { used = true; card = true; least = 0; most = 51 }

abbrev uses : Bool → Span → Span → KindRow
uses seat a b = record { seat = seat; a = a; b = b }

abbrev pub rows : List KindRow
rows =
    -- sit: seat, a = chips 1 to 1,000,000
    uses true (from_to 1 1000000) none
    -- leave: seat
    ∷ uses true none none
    -- hand: seat = puck
    ∷ uses true none none
    -- hole: seat, a, b = cards
    ∷ uses true card card
    -- fold, check, call: seat
    ∷ uses true none none
    ∷ uses true none none
    ∷ uses true none none
    -- wager: seat, a = round total after it, 1 to 100,000,000
    ∷ uses true (from_to 1 100000000) none
    -- board: a = card
    ∷ uses false card none
    -- dead: seat
    ∷ uses true none none
    -- settle and void use none
    ∷ uses false none none
    ∷ uses false none none
    ∷ []

abbrev pub row_at : ℕ → KindRow
row_at k = get_or rows k (uses false none none)

-- an entry's numbers: the place of its kind in the table, counted from 0, its seat, a and b; "Numbers an entry doesn't use are 0"
abbrev pub made : ℕ → ℕ → ℕ → ℕ → Numbers
made kind seat a b = record { kind = kind; seat = seat; a = a; b = b }

abbrev pub numbers_of : Entry → Numbers
numbers_of (Sit s a) = made 0 s a 0
numbers_of (Leave s) = made 1 s 0 0
numbers_of (Hand s) = made 2 s 0 0
numbers_of (Hole s a b) = made 3 s a b
numbers_of (Fold s) = made 4 s 0 0
numbers_of (Check s) = made 5 s 0 0
numbers_of (Call s) = made 6 s 0 0
numbers_of (Wager s a) = made 7 s a 0
numbers_of (Board k) = made 8 0 k 0
numbers_of (Dead s) = made 9 s 0 0
numbers_of Settle = made 10 0 0 0
numbers_of Void = made 11 0 0 0

-- ---- code 2: "unknown kind, a number outside its range, a seat above `seats`, an unused number not 0"

-- a number that is not used is 0
abbrev pub spare : Bool → ℕ → Bool
spare used x = either used (eqb x 0)

abbrev pub spared : KindRow → Numbers → Bool
spared row x = both (spare row.seat x.seat) (both (spare row.a.used x.a) (spare row.b.used x.b))

-- the test of a number that is used, before the tests of the next ones
abbrev pub if_used : Bool → Bool → List Bool → List Bool
if_used true t ts = t ∷ ts
if_used false t ts = ts

-- each number that is used is in its range
abbrev pub least_in : ℕ → Span → ℕ
least_in deck s = pick s.card (least_card deck) s.least

abbrev pub in_span : ℕ → Span → ℕ → Bool
in_span deck s x = between (least_in deck s) s.most x

abbrev pub ranged : Sheet → KindRow → Numbers → Bool
ranged sheet row x =
    all_of
    (if_used row.seat (is_seat sheet x.seat)
    (if_used row.a.used (in_span sheet.deck row.a x.a)
    (if_used row.b.used (in_span sheet.deck row.b x.b) [])))

-- a known kind, the unused numbers 0: these numbers make an entry
abbrev pub makes_entry : Numbers → Bool
makes_entry x = both (ltb x.kind 12) (spared (row_at x.kind) x)

-- and the used ones are in their ranges
abbrev pub numbers_fit : Sheet → Numbers → Bool
numbers_fit sheet x = both (makes_entry x) (ranged sheet (row_at x.kind) x)

-- n is 1 to 1,000,000
abbrev pub is_count : ℕ → Bool
is_count n = between 1 1000000 n

-- the numbers of a block, n among them, as they are read or are to be written
abbrev pub block_fits : Sheet → ℕ → Numbers → Bool
block_fits sheet n x = both (is_count n) (numbers_fit sheet x)

-- those of an entry, however it was made
abbrev pub in_kind : Sheet → Entry → Bool
in_kind sheet e = numbers_fit sheet (numbers_of e)

unfoldable pub in_range : Sheet → ℕ → Entry → Bool
in_range sheet n e = block_fits sheet n (numbers_of e)
