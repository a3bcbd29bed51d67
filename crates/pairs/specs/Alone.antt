-- Request No. 7: "Whatever table A does, table B's .. are the same". The lines that a table is given, out of all pieces, oldest first, and the table after them.
-- Assumes nothing.
use Rattle.std.specs.Prelude.{ℕ, Bool, true, false, List, [], ◌∷◌, ◌++◌}
use Rattle.laws.specs.Tests.{pick, both}
use Rattle.table.specs.declared.table.Table.{Table}
use Rattle.shared.specs.Shared.{judged_at}
use Rattle.frames.specs.Frames.{in_opening, Piece, Whole, Cut, OfNone, Missing}
use Rattle.couple.specs.Couple.{is_second}
use Rattle.pairs.specs.Pairs.{cut_lines}

-- table 2's, or table 1's
abbrev pub same_table : Bool → Bool → Bool
same_table true b = b
same_table false true = false
same_table false false = true

-- what a piece gives to a table: the lines of a block, or those of one that is cut short
abbrev pub own : Bool → Piece → List (List ℕ)
own second (Whole due lines) = pick (same_table second (is_second due)) (lines ∷ []) []
own second (Cut due) = pick (same_table second (is_second due)) (cut_lines ∷ []) []
own second OfNone = []
own second Missing = []

abbrev pub own_lines : Bool → List Piece → List (List ℕ)
own_lines second [] = []
own_lines second (x ∷ xs) = own second x ++ own_lines second xs

-- the table after them; the pool is not asked
abbrev pub table_run : Table → List (List ℕ) → Table
table_run t [] = t
table_run t (l ∷ ls) = table_run (judged_at t l).table ls

-- a piece behind the opening
abbrev pub is_block : Piece → Bool
is_block (Whole due lines) = pick (in_opening due) false true
is_block (Cut due) = true
is_block OfNone = true
is_block Missing = false

abbrev pub all_blocks : List Piece → Bool
all_blocks [] = true
all_blocks (x ∷ xs) = both (is_block x) (all_blocks xs)
