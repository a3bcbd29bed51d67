-- Request No. 7: "Whatever table A does, table B's codes, turns, marks and pots are the same, its stacks and all other lines too". What is keyed at one of two tables, out of
-- a whole input and oldest first: its sheet, and its blocks; and each answer of that table. Assumes nothing.
use Rattle.std.specs.Prelude.{ℕ, Bool, false, not, List, [], ◌∷◌, ◌++◌}
use Rattle.laws.specs.Tests.{pick, both}
use Rattle.table.specs.declared.table.Table.{Table}
use Rattle.shared.specs.Shared.{bytes_at}
use Rattle.frames.specs.Frames.{is_pool, in_opening, Piece, Whole, Cut, OfNone, Missing, pieces_of}
use Rattle.couple.specs.declared.Pair.{Pair}
use Rattle.couple.specs.Couple.{is_second, table_at, start_of}
use Rattle.pairs.specs.Pairs.{cut_lines, piece_in, ran}
use Rattle.pairs.specs.Alone.{same_table}

-- a piece of table 2, or of table 1: its sheet, or a block, whole or cut short. The line `pool` is neither's
abbrev pub is_of : Bool → Piece → Bool
is_of second (Whole due lines) = pick (is_pool due) false (same_table second (is_second due))
is_of second (Cut due) = same_table second (is_second due)
is_of second OfNone = false
is_of second Missing = false

abbrev pub keyed_in : Bool → List Piece → List Piece
keyed_in second [] = []
keyed_in second (x ∷ xs) = pick (is_of second x) (x ∷ keyed_in second xs) (keyed_in second xs)

-- all that is keyed at a table
abbrev pub keyed_at : Bool → List ℕ → List Piece
keyed_at second input = keyed_in second (pieces_of input)

-- the opening is bad: `code=11` and the end
abbrev pub is_shut : List ℕ → Bool
is_shut input = (ran 0 start_of (pieces_of input)).pair.shut

-- the table after a whole input
abbrev pub table_over : Bool → List ℕ → Table
table_over second input = table_at (ran 0 start_of (pieces_of input)).pair.tables second

-- the answer to a piece, where it is a block of a table
abbrev pub answer_to : Pair → Piece → List (List ℕ)
answer_to p (Whole due lines) = pick (in_opening due) [] (bytes_at (table_at p.tables (is_second due)) p.pool lines ∷ [])
answer_to p (Cut due) = bytes_at (table_at p.tables (is_second due)) p.pool cut_lines ∷ []
answer_to p OfNone = []
answer_to p Missing = []

abbrev pub answers_in : Bool → Pair → List Piece → List (List ℕ)
answers_in second p [] = []
answers_in second p (x ∷ xs) = pick (both (not p.shut) (is_of second x)) (answer_to p x) [] ++ answers_in second (piece_in 0 p x).pair xs

-- all answers of a table, each as its bytes
abbrev pub answers_at : Bool → List ℕ → List (List ℕ)
answers_at second input = answers_in second start_of (pieces_of input)

-- the argument of `--table` that shows it
abbrev pub screen_of : Bool → ℕ
screen_of second = pick second 2 1
