-- Document 01, "The table sheet and the entries": "Text is key=value lines in a fixed order, each ended by one LF". Request No. 1: "the part that writes a
-- table sheet and any entry in 01's text form into a lent buffer, with code 12 when it is too short and no byte changed .. Numbers outside 01's ranges,
-- seats read against the sheet, get code 2 before 12, and nothing is written." Assumes nothing.
use Rattle.std.specs.Prelude.{ℕ, ◌<◌, ◌^◌, List, [], ◌∷◌, ◌++◌, Bool, length, get_or, Result, Ok, Err}
use Rattle.paper.specs.declared.refusal.Refusal.TheVariants.{OutOfRange, NoRoom}
use Rattle.paper.specs.declared.refusal.Refusal.{Refusal}
use Rattle.laws.specs.Tests.{pick, both}
use Rattle.paper.specs.RefusalNumbers.{taken}
use Rattle.paper.specs.Refusals.{number_of}
use Rattle.paper.specs.SheetAndEntries.{kind_names, numbers_of, sheet_values, is_sheet, in_range}
use Rattle.paper.specs.declared.Sheet.{Sheet}
use Rattle.paper.specs.declared.Numbers.{Numbers}
use Rattle.paper.specs.declared.Entry.{Entry}
use Rattle.text.specs.Line.{number_line}
use Rattle.text.specs.TableSheet.{sheet_keys}
use Rattle.writing.specs.AnswerSheet.{fits, sheet_after}

-- ---- the sheet: its lines are those of text's one table

-- a line for each key with its number
abbrev pub number_lines : List (List ℕ) → List ℕ → List ℕ
number_lines [] vs = []
number_lines (k ∷ ks) [] = []
number_lines (k ∷ ks) (v ∷ vs) = number_line k v ++ number_lines ks vs

unfoldable pub sheet_text : Sheet → List ℕ
sheet_text s = number_lines sheet_keys (sheet_values s)

-- ---- an entry: "An entry is five lines: n, do, seat, a, b."

-- the line of a kind's word: `do=`, the word, LF
abbrev pub word_line : List ℕ → List ℕ
word_line w = (100 ∷ 111 ∷ 61 ∷ w) ++ (10 ∷ [])

-- the five lines of a block's numbers
unfoldable pub block_text : ℕ → Numbers → List ℕ
block_text n x =
    number_line (110 ∷ []) n
    ++ word_line (get_or kind_names x.kind [])
    ++ number_line (115 ∷ 101 ∷ 97 ∷ 116 ∷ []) x.seat
    ++ number_line (97 ∷ []) x.a
    ++ number_line (98 ∷ []) x.b

-- numbers that can be written: a known kind, and at most nine digits each
pub record SmallEntry (n : ℕ) (x : Numbers) : Type 0 where
  pub kind : x.kind < 12
  pub count : n < 10 ^ 9
  pub seat : x.seat < 10 ^ 9
  pub a : x.a < 10 ^ 9
  pub b : x.b < 10 ^ 9

-- "Numbers an entry doesn't use are 0": `numbers_of`
abbrev pub entry_text : ℕ → Entry → List ℕ
entry_text n e = block_text n (numbers_of e)

-- the sheet that a seat is read against is a good one, and the entry and its n are in their ranges
unfoldable pub is_entry : Sheet → ℕ → Entry → Bool
is_entry sheet n e = both (is_sheet sheet) (in_range sheet n e)

-- ---- what is answered, and the lent buffer afterwards: 2 before 12, and with either no byte changed

abbrev pub put_of : Bool → List ℕ → List ℕ → Result ℕ Refusal
put_of good bs buffer = pick good (pick (fits bs buffer) (Ok (length bs)) (Err NoRoom)) (Err OutOfRange)

abbrev pub put_after : Bool → List ℕ → List ℕ → List ℕ
put_after good bs buffer = pick good (sheet_after bs buffer) buffer

-- the paper's number for each answer
abbrev pub code_of_put : Result ℕ Refusal → ℕ
code_of_put (Ok k) = taken
code_of_put (Err why) = number_of why
