-- The rows that one line of an answer draws. A row has a left half, a label and a number column, and a right half, an amount or a word.
use Rattle.std.specs.Prelude.{ℕ, List, [], ◌∷◌, ◌++◌, map, Bool, true, false, eqb}
use Rattle.laws.specs.Tests.{pick, both, either}
use Rattle.paper.specs.SheetAndEntries.{between}
use Rattle.figures.specs.Words.{rule, red, taken, refused, nobody}
use Rattle.figures.specs.ScreenRow.{kind_n, kind_code, kind_turn, kind_pot, kind_back, kind_sitting, kind_paid, kind_unclaimed, kind_none, cell_of, amount_of, left_of, words_row, lamp_cell, half_row, counted_of}

-- taken; or refused, and the refusal in words. A bad sheet has no other line, so a rule ends its picture
unfoldable pub verdict_of : Bool → ℕ → List ℕ
verdict_of colour code =
    pick (eqb code 0) (cell_of false [] taken) (cell_of colour red refused ++ words_row colour code ++ pick (eqb code 11) rule [])

-- the lamp: five rows, the first behind the label that the line has; dark where it is nobody's turn
unfoldable pub lamp_row : Bool → ℕ → ℕ → List ℕ
lamp_row colour seat row = left_of kind_none false 0 ++ lamp_cell colour seat row

unfoldable pub lamp_of : Bool → ℕ → List ℕ
lamp_of colour seat =
    pick (eqb seat 0) (cell_of false [] nobody)
    (lamp_cell colour seat 0 ++ lamp_row colour seat 1 ++ lamp_row colour seat 2 ++ lamp_row colour seat 3 ++ lamp_row colour seat 4)

-- a line that is the right half of the line before
unfoldable pub completes : ℕ → ℕ → Bool
completes last kind = either (both (eqb last kind_n) (eqb kind kind_code)) (both (eqb last kind_sitting) (eqb kind kind_paid))

-- the number in a line's number column: a pot's is its place from the lowest, an entry's and a sitting's their own
unfoldable pub column_number : ℕ → ℕ → ℕ → ℕ
column_number pots kind v = pick (eqb kind kind_pot) (counted_of pots kind) v

unfoldable pub numbered : ℕ → Bool
numbered kind = either (half_row kind) (eqb kind kind_pot)

-- a row that begins: the half row before it ends, and above an entry, or a code that stands alone, there is a rule
unfoldable pub front_of : ℕ → ℕ → ℕ → List ℕ
front_of last kind n =
    pick (half_row last) (10 ∷ []) [] ++ pick (either (eqb kind kind_n) (eqb kind kind_code)) rule [] ++ left_of kind (numbered kind) n

unfoldable pub start_row : ℕ → ℕ → ℕ → List ℕ
start_row last kind n = pick (completes last kind) [] (front_of last kind n)

-- the right half, and what stands below it
unfoldable pub rest_row : Bool → ℕ → ℕ → List ℕ
rest_row colour kind v =
    pick (half_row kind) [] (pick (eqb kind kind_code) (verdict_of colour v) (pick (eqb kind kind_turn) (lamp_of colour v) (amount_of v)))

-- the picture of an answer line of this kind with the number v, behind a line of the kind last and so many pots in a row
unfoldable pub line_drawn : Bool → ℕ → ℕ → ℕ → ℕ → List ℕ
line_drawn colour last pots kind v =
    start_row last kind (column_number pots kind v)
    ++ rest_row colour kind v
    ++ pick (either (eqb kind kind_back) (eqb kind kind_unclaimed)) rule []

-- ---- a line that is no answer line

-- a byte of it: as it is where it is printable, else a dot
unfoldable pub visible_of : ℕ → ℕ
visible_of b = pick (between 32 126 b) b 46

abbrev pub visible_all : List ℕ → List ℕ
visible_all bs = map visible_of bs

-- the mark before it, `?`; before what is left of one whose first bytes were shown, `>`
abbrev pub mark_of : Bool → List ℕ
mark_of true = 62 ∷ 32 ∷ []
mark_of false = 63 ∷ 32 ∷ []

unfoldable pub foreign_row : ℕ → Bool → List ℕ → List ℕ
foreign_row last long bs = pick (half_row last) (10 ∷ []) [] ++ mark_of long ++ visible_all bs ++ (10 ∷ [])
