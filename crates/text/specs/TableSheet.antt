-- Document 01, "The table sheet and the entries": "The sheet comes first: seats (2 to 10), small, big (1 ≤ small ≤ big ≤ 10,000), rate (0 to 100, thousandths), cap (0 to 1,000,000)."
-- Request No. 3: "the room's smallest chip, a sixth sheet line step (1 to 1,000)". Request No. 5: "A seventh sheet line game is 2 or 4."
-- Request No. 6: "An eighth sheet line deck is 52 or 32". Request No. 7: "drop units (ninth sheet line, 0 to 1,000)".
-- Refusal 11: "a sheet line is missing, malformed or out of its range".
use Rattle.std.specs.Prelude.{ℕ, zero, suc, ◌+◌, ◌*◌, List, [], ◌∷◌, Bool, true, length, get_or, Option, is_some, unwrap_or, Result, Ok, Err}
use Rattle.paper.specs.declared.refusal.Refusal.TheVariants.{BadSheet}
use Rattle.paper.specs.declared.refusal.Refusal.{Refusal}
use Rattle.laws.specs.Tests.{pick, both}
use Rattle.text.specs.Line.{after_lines, line_number}
use Rattle.paper.specs.SheetAndEntries.{sheet_by, is_sheet}
use Rattle.paper.specs.declared.Sheet.{Sheet}

-- the keys of the sheet's lines in their order: the one table of them. What numbers they may have is said by paper's `is_sheet`
abbrev pub sheet_keys : List (List ℕ)
sheet_keys =
    -- seats
    (115 ∷ 101 ∷ 97 ∷ 116 ∷ 115 ∷ [])
    -- small
    ∷ (115 ∷ 109 ∷ 97 ∷ 108 ∷ 108 ∷ [])
    -- big
    ∷ (98 ∷ 105 ∷ 103 ∷ [])
    -- rate
    ∷ (114 ∷ 97 ∷ 116 ∷ 101 ∷ [])
    -- cap
    ∷ (99 ∷ 97 ∷ 112 ∷ [])
    -- step
    ∷ (115 ∷ 116 ∷ 101 ∷ 112 ∷ [])
    -- game
    ∷ (103 ∷ 97 ∷ 109 ∷ 101 ∷ [])
    -- deck
    ∷ (100 ∷ 101 ∷ 99 ∷ 107 ∷ [])
    -- drop
    ∷ (100 ∷ 114 ∷ 111 ∷ 112 ∷ [])
    ∷ []

-- how many lines a sheet has
abbrev pub sheet_lines : ℕ
sheet_lines = length sheet_keys

-- the most bytes that are kept of a sheet or of a block: a line is kept up to its 33rd byte, and its LF
abbrev pub sheet_room : ℕ
sheet_room = sheet_lines * 34

-- the number of the sheet's k-th line, counted from 0
unfoldable pub sheet_number : ℕ → List ℕ → Option ℕ
sheet_number k log = line_number (get_or sheet_keys k []) (after_lines k log)

abbrev pub is_value : Option ℕ → Bool
is_value x = is_some x

abbrev pub value_in : Option ℕ → ℕ
value_in x = unwrap_or x 0

-- the first k lines are good
abbrev pub all_good : ℕ → List ℕ → Bool
all_good zero log = true
all_good (suc k) log = both (is_value (sheet_number k log)) (all_good k log)

-- the numbers of n lines from the k-th on, 0 for one that is none
abbrev pub values_from : ℕ → ℕ → List ℕ → List ℕ
values_from zero k log = []
values_from (suc n) k log = value_in (sheet_number k log) ∷ values_from n (k + 1) log

unfoldable pub sheet_with : List ℕ → Sheet
sheet_with log = sheet_by (values_from sheet_lines 0 log)

-- the sheet at the front of a log: each of its lines is a number line with its key, and the numbers are those of a sheet
unfoldable pub sheet_of : List ℕ → Result Sheet Refusal
sheet_of log = pick (both (all_good sheet_lines log) (is_sheet (sheet_with log))) (Ok (sheet_with log)) (Err BadSheet)

-- what follows the sheet: its lines are used up
unfoldable pub sheet_end : List ℕ → List ℕ
sheet_end log = after_lines sheet_lines log
