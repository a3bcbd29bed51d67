-- Change request No. 8, "how much room": the answer block line by line, in document 01's order, so that its lines and their bytes are counted. Assumes nothing.
use Rattle.std.specs.Prelude.{ℕ, Bool, true, false, List, [], ◌∷◌, ◌++◌, map, take, eqb, Option, Some, None}
use Rattle.laws.specs.Tests.{pick}
use Rattle.text.specs.Line.{number_line}
use Rattle.writing.specs.Nine.{nine_line}
use Rattle.pots.specs.declared.Pot.{Pot}
use Rattle.answers.specs.declared.PaidRow.{PaidRow}
use Rattle.answers.specs.declared.ShownPayout.{ShownPayout}
use Rattle.answers.specs.declared.Shown.{Shown}
use Rattle.answers.specs.Answer.{key_n, key_code, key_turn, key_mark, key_pot, key_back, key_fee, key_jackpot, key_sitting, key_paid, key_unclaimed}

-- a line: its key and its number, which may stand in nine digits
pub record Line : Type 0 where
  pub key : List ℕ
  pub number : ℕ
  pub nine : Bool

abbrev pub line : List ℕ → ℕ → Line
line k n = record { key = k; number = n; nine = false }

abbrev pub line_bytes : Line → List ℕ
line_bytes l = pick l.nine (nine_line l.key l.number) (number_line l.key l.number)

-- "Lines n, code, turn, mark, one pot per pot, back"
abbrev pub pot_line : Pot → Line
pot_line p = line key_pot p.amount

abbrev pub table_lines : Shown → List Line
table_lines s =
    (line key_n s.n ∷ line key_code s.code ∷ line key_turn s.turn ∷ line key_mark s.mark ∷ [])
    ++ map pot_line (take s.pots.n s.pots.list)
    ++ (line key_back s.back ∷ [])

-- "fee, then sitting and paid for each dealt-in seat in rising order, then unclaimed"
abbrev pub row_lines : PaidRow → List Line
row_lines r = pick (eqb r.sitting 0) [] (line key_sitting r.sitting ∷ line key_paid r.paid ∷ [])

abbrev pub rows_lines : List PaidRow → List Line
rows_lines [] = []
rows_lines (r ∷ rs) = row_lines r ++ rows_lines rs

-- "a `jackpot` line after `fee`"
abbrev pub jackpot_line : ℕ → Line
jackpot_line n = record { key = key_jackpot; number = n; nine = true }

abbrev pub jackpot_lines : Option ℕ → List Line
jackpot_lines None = []
jackpot_lines (Some n) = jackpot_line n ∷ []

abbrev pub payout_lines : ShownPayout → List Line
payout_lines p = (line key_fee p.fee ∷ []) ++ jackpot_lines p.jackpot ++ rows_lines p.rows ++ (line key_unclaimed p.unclaimed ∷ [])

-- the lines of the answer that shows this (proofs/Room, `answer_lines_law`: their bytes are the answer's)
abbrev pub answer_lines : Shown → List Line
answer_lines s = table_lines s ++ pick s.settled (payout_lines s.payout) []

-- no answer has more lines: n, code, turn, mark, back; and at a settle, which leaves no pots, fee, two for each of ten seats, unclaimed
abbrev pub most_lines : ℕ
most_lines = 27

-- and one more, jackpot, where a pool is shared
abbrev pub most_lines_shared : ℕ
most_lines_shared = 28

abbrev pub most_lines_with : Bool → ℕ
most_lines_with shared = pick shared most_lines_shared most_lines

-- no line has more bytes: a key of nine letters, `=`, nine digits and LF
abbrev pub longest_line : ℕ
longest_line = 20
