-- One row of the picture: a left half, a label and a number column, and a right half, an amount or a word.
use Rattle.std.specs.Prelude.{ℕ, ◌+◌, min, List, [], ◌++◌, Bool, false, get_or, eqb}
use Rattle.laws.specs.Tests.{pick, either}
use Rattle.figures.specs.Words.{labels, kinds, words, gap, edge, bar, amber, red, off}
use Rattle.figures.specs.Grouped.{grouped_of, column_of}
use Rattle.figures.specs.Lamp.{cells_of}

-- the kinds of lines by their places in the table of labels
abbrev pub kind_n : ℕ
kind_n = 0

abbrev pub kind_code : ℕ
kind_code = 1

abbrev pub kind_turn : ℕ
kind_turn = 2

abbrev pub kind_pot : ℕ
kind_pot = 4

abbrev pub kind_back : ℕ
kind_back = 5

abbrev pub kind_sitting : ℕ
kind_sitting = 7

abbrev pub kind_paid : ℕ
kind_paid = 8

abbrev pub kind_unclaimed : ℕ
kind_unclaimed = 9

-- request No. 7's eleventh key, which stands behind `fee` where a pool is shared
abbrev pub kind_jackpot : ℕ
kind_jackpot = 10

-- no answer line
abbrev pub kind_none : ℕ
kind_none = kinds

-- bytes in a colour, where there are colours
unfoldable pub lit_of : Bool → List ℕ → List ℕ → List ℕ
lit_of colour ink bs = pick colour ink [] ++ bs ++ pick colour off []

-- a right half with eleven bytes in the amount's place
unfoldable pub cell_of : Bool → List ℕ → List ℕ → List ℕ
cell_of colour ink bs = gap ++ lit_of colour ink bs ++ edge

-- an amount, without colour
unfoldable pub amount_of : ℕ → List ℕ
amount_of n = cell_of false [] (grouped_of n)

-- a left half
unfoldable pub left_of : ℕ → Bool → ℕ → List ℕ
left_of kind shown n = get_or labels kind [] ++ column_of shown n

-- the row that gives a refusal in words
unfoldable pub words_row : Bool → ℕ → List ℕ
words_row colour code = bar ++ lit_of colour red (get_or words code []) ++ edge

-- a row of the lamp in the place of an amount
unfoldable pub lamp_cell : Bool → ℕ → ℕ → List ℕ
lamp_cell colour seat row = cell_of colour amber (cells_of seat row)

-- a line that draws a left half alone: an entry's number, which its code follows, and a sitting's, which what it is paid follows
unfoldable pub half_row : ℕ → Bool
half_row kind = either (eqb kind kind_n) (eqb kind kind_sitting)

-- how many pots stand in a row after a line of this kind
unfoldable pub counted_of : ℕ → ℕ → ℕ
counted_of pots kind = pick (eqb kind kind_pot) (min (pots + 1) 999_999_999) 0
