-- Document 01, "The table sheet and the entries": "An entry is five lines: n, do, seat, a, b." "do is 1 to 8 small letters." "Reading uses up five lines at a time, whatever the code;
-- a last block without its fifth LF is malformed. No bytes left means no block."
use Rattle.std.specs.Prelude.{ℕ, suc, List, [], ◌∷◌, Bool, length, eqb, leb, Option, Some, None}
use Rattle.laws.specs.Tests.{pick, both}
pub use Rattle.paper.specs.SheetAndEntries.{kind_names}
use Rattle.text.specs.Bytes.{all_within}
use Rattle.laws.specs.Listing.{same_list}
use Rattle.text.specs.Line.{after_line, after_lines, value_of, line_number}
use Rattle.blocks.specs.declared.Block.{Block}
use Rattle.blocks.specs.declared.Block.TheVariants.{Raw, Malformed, Nothing}

-- how many lines a block has: n, do, seat, a, b
abbrev pub block_lines : ℕ
block_lines = 5

-- what is left of a log once a block is read: what follows its fifth LF
unfoldable pub rest_of : List ℕ → List ℕ
rest_of log = after_lines block_lines log

-- the place of a word in a table of words, counted from 0; the table's length where it is not in it
abbrev pub place_in : List (List ℕ) → List ℕ → ℕ
place_in [] w = 0
place_in (t ∷ ts) w = pick (same_list w t) 0 (suc (place_in ts w))

-- small letters: `a` is 97 and `z` is 122
abbrev pub all_letters : List ℕ → Bool
all_letters w = all_within 97 122 w

-- 1 to 8 small letters
abbrev pub is_word : List ℕ → Bool
is_word w = both (both (leb 1 (length w)) (leb (length w) 8)) (all_letters w)

-- the place of a kind's word in the table, 12 where there is no such kind; Bad where it is no word
unfoldable pub kind_of : List ℕ → Option ℕ
kind_of w = pick (is_word w) (Some (place_in kind_names w)) None

-- the kind of a log's first line, whose key is `do`
abbrev pub line_kind : List ℕ → Option ℕ
line_kind log = kind_of (value_of (100 ∷ 111 ∷ []) log)

-- five readings make a block where none of them is bad
abbrev pub block_from : Option ℕ → Option ℕ → Option ℕ → Option ℕ → Option ℕ → Block
block_from None kind seat a b = Malformed
block_from (Some n) None seat a b = Malformed
block_from (Some n) (Some kind) None a b = Malformed
block_from (Some n) (Some kind) (Some seat) None b = Malformed
block_from (Some n) (Some kind) (Some seat) (Some a) None = Malformed
block_from (Some n) (Some kind) (Some seat) (Some a) (Some b) = Raw n kind seat a b

-- the block at the front of a log
unfoldable pub block_of : List ℕ → Block
block_of log =
    pick (eqb (length log) 0) Nothing
    (block_from
    (line_number (110 ∷ []) log)
    (line_kind (after_line log))
    (line_number (115 ∷ 101 ∷ 97 ∷ 116 ∷ []) (after_line (after_line log)))
    (line_number (97 ∷ []) (after_line (after_line (after_line log))))
    (line_number (98 ∷ []) (after_line (after_line (after_line (after_line log))))))
