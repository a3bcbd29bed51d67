-- The turn lamp: the seat's number, large. A digit has five rows of five dots; a row is a number of five bits.
use Rattle.std.specs.Prelude.{ℕ, ◌+◌, ◌*◌, ◌/◌, ◌%◌, List, [], ◌∷◌, get_or, eqb, ltb}
use Rattle.laws.specs.Tests.{pick}

-- the digits 0 to 9, five rows each from the top
abbrev pub font : List ℕ
font =
    0b01110 ∷ 0b10001 ∷ 0b10001 ∷ 0b10001 ∷ 0b01110
    ∷ 0b00100 ∷ 0b01100 ∷ 0b00100 ∷ 0b00100 ∷ 0b01110
    ∷ 0b11110 ∷ 0b00001 ∷ 0b01110 ∷ 0b10000 ∷ 0b11111
    ∷ 0b11110 ∷ 0b00001 ∷ 0b01110 ∷ 0b00001 ∷ 0b11110
    ∷ 0b10010 ∷ 0b10010 ∷ 0b11111 ∷ 0b00010 ∷ 0b00010
    ∷ 0b11111 ∷ 0b10000 ∷ 0b11110 ∷ 0b00001 ∷ 0b11110
    ∷ 0b01110 ∷ 0b10000 ∷ 0b11110 ∷ 0b10001 ∷ 0b01110
    ∷ 0b11111 ∷ 0b00001 ∷ 0b00010 ∷ 0b00100 ∷ 0b00100
    ∷ 0b01110 ∷ 0b10001 ∷ 0b01110 ∷ 0b10001 ∷ 0b01110
    ∷ 0b01110 ∷ 0b10001 ∷ 0b01111 ∷ 0b00001 ∷ 0b01110
    ∷ []

unfoldable pub bits_of : ℕ → ℕ → ℕ
bits_of digit row = get_or font (digit * 5 + row) 0

-- the dot whose bit counts p's: `#` or a blank
unfoldable pub dot_of : ℕ → ℕ → ℕ
dot_of row p = pick (eqb (row / p % 2) 1) 35 32

-- a row of the lamp for a seat of at most 19: the tens, dark below ten, a blank, the units
unfoldable pub cells_of : ℕ → ℕ → List ℕ
cells_of seat row =
    dot_of (pick (ltb seat 10) 0 (bits_of 1 row)) 16
    ∷ dot_of (pick (ltb seat 10) 0 (bits_of 1 row)) 8
    ∷ dot_of (pick (ltb seat 10) 0 (bits_of 1 row)) 4
    ∷ dot_of (pick (ltb seat 10) 0 (bits_of 1 row)) 2
    ∷ dot_of (pick (ltb seat 10) 0 (bits_of 1 row)) 1
    ∷ 32
    ∷ dot_of (bits_of (seat % 10) row) 16
    ∷ dot_of (bits_of (seat % 10) row) 8
    ∷ dot_of (bits_of (seat % 10) row) 4
    ∷ dot_of (bits_of (seat % 10) row) 2
    ∷ dot_of (bits_of (seat % 10) row) 1
    ∷ []
