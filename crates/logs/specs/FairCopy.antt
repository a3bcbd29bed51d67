-- Request No. 1: "Rooms edit logs by hand and send us broken ones." A log copied fair: its sheet and every block that is an entry in range, in good form;
-- and about each block that is left out a line with its number in the log and its code. Blocks are found as the clerk finds them: "Reading uses up five
-- lines at a time, whatever the code; a last block without its fifth LF is malformed. No bytes left means no block." Assumes nothing.
use Rattle.std.specs.Prelude.{ℕ, zero, suc, ◌+◌, min, List, [], ◌∷◌, ◌++◌, not, length, eqb, leb, Result, Ok, Err}
use Rattle.paper.specs.declared.Entry.{Entry}
use Rattle.paper.specs.declared.refusal.Refusal.{Refusal}
use Rattle.laws.specs.Tests.{pick}
use Rattle.paper.specs.RefusalNumbers.{taken, out_of_range, when}
use Rattle.paper.specs.declared.Sheet.{Sheet}
use Rattle.text.specs.Number.{digits}
use Rattle.text.specs.Line.{number_line}
use Rattle.blocks.specs.Block.{block_of, rest_of}
use Rattle.blocks.specs.Entry.{parsed_of}
use Rattle.text.specs.TableSheet.{sheet_of, sheet_end}
use Rattle.text.specs.Codes.{eleven}
use Rattle.blocks.specs.Codes.{code_of_block, code_of_parsed}
use Rattle.blocks.specs.declared.Block.{Block}
use Rattle.blocks.specs.declared.Block.TheVariants.{Raw, Malformed, Nothing}
use Rattle.logs.specs.declared.copy.Copied.{Copied}
use Rattle.logs.specs.LogText.{sheet_text, entry_text, is_entry, put_of, code_of_put}

-- ---- one block

-- its code as to form and ranges: 1, 2, or 0 where it is an entry in range
abbrev pub entry_code : Sheet → ℕ → Result Entry Refusal → ℕ
entry_code sheet n (Ok e) = when (not (is_entry sheet n e)) out_of_range
entry_code sheet n (Err why) = code_of_parsed (Err why)

abbrev pub form_code : Sheet → Block → ℕ
form_code sheet (Raw n kind seat a b) = entry_code sheet n (parsed_of kind seat a b)
form_code sheet Malformed = code_of_block Malformed
form_code sheet Nothing = code_of_block Nothing

unfoldable pub block_code : Sheet → List ℕ → ℕ
block_code sheet log = form_code sheet (block_of log)

-- what stands of it in the copy: the entry with its n as they are, or nothing
abbrev pub entry_copy : Sheet → ℕ → Result Entry Refusal → List ℕ
entry_copy sheet n (Ok e) = pick (is_entry sheet n e) (entry_text n e) []
entry_copy sheet n (Err why) = []

abbrev pub form_copy : Sheet → Block → List ℕ
form_copy sheet (Raw n kind seat a b) = entry_copy sheet n (parsed_of kind seat a b)
form_copy sheet Malformed = []
form_copy sheet Nothing = []

unfoldable pub block_copy : Sheet → List ℕ → List ℕ
block_copy sheet log = form_copy sheet (block_of log)

-- ---- the whole log

-- the copies of its blocks, one after another. The first number bounds how many; no log has more blocks than bytes
abbrev pub copies_from : ℕ → Sheet → List ℕ → List ℕ
copies_from zero sheet log = []
copies_from (suc k) sheet log = pick (eqb (length log) 0) [] (block_copy sheet log ++ copies_from k sheet (rest_of log))

-- without a good sheet nothing can be read, and nothing is written
abbrev pub fair_from : Result Sheet Refusal → List ℕ → List ℕ
fair_from (Ok s) log = sheet_text s ++ copies_from (length log) s (sheet_end log)
fair_from (Err why) log = []

unfoldable pub fair_copy : List ℕ → List ℕ
fair_copy log = fair_from (sheet_of log) log

-- the codes of its blocks, one after another
abbrev pub codes_from : ℕ → Sheet → List ℕ → List ℕ
codes_from zero sheet log = []
codes_from (suc k) sheet log = pick (eqb (length log) 0) [] (block_code sheet log ∷ codes_from k sheet (rest_of log))

-- ---- what is said about what is left out

-- `block=`, the number, ` code=`, the code, LF
unfoldable pub note_text : ℕ → ℕ → List ℕ
note_text number code = (98 ∷ 108 ∷ 111 ∷ 99 ∷ 107 ∷ 61 ∷ []) ++ digits number ++ number_line (32 ∷ 99 ∷ 111 ∷ 100 ∷ 101 ∷ []) code

-- blocks are counted from 1; a number has nine digits at most, and the count goes no further
abbrev pub next_number : ℕ → ℕ
next_number count = min count 999999998 + 1

abbrev pub note_of : ℕ → ℕ → List ℕ
note_of number code = pick (eqb code taken) [] (note_text number code)

-- no such line is longer: with less room nothing is written
abbrev pub note_most : ℕ
note_most = 31

abbrev pub note_in : ℕ → ℕ → ℕ → List ℕ
note_in number code room = pick (eqb code taken) [] (pick (leb note_most room) (note_text number code) [])

-- for each block behind the first `count` its line, where it is left out
abbrev pub notes_from : ℕ → ℕ → Sheet → List ℕ → List ℕ
notes_from zero count sheet log = []
notes_from (suc k) count sheet log =
    pick (eqb (length log) 0) [] (note_of (next_number count) (block_code sheet log) ++ notes_from k (next_number count) sheet (rest_of log))

-- a bad sheet: `code=11` and one LF
abbrev pub said_from : Result Sheet Refusal → List ℕ → List ℕ
said_from (Ok s) log = notes_from (length log) 0 s (sheet_end log)
said_from (Err why) log = eleven

unfoldable pub left_out : List ℕ → List ℕ
left_out log = said_from (sheet_of log) log

-- ---- one block into a lent buffer: its code and how much was written; 12 where it is too short

abbrev pub copied_as : Result ℕ Refusal → Copied
copied_as (Ok k) = record { code = code_of_put (Ok k); written = k }
copied_as (Err why) = record { code = code_of_put (Err why); written = 0 }

abbrev pub left_as : ℕ → Copied
left_as code = record { code = code; written = 0 }

abbrev pub entry_copied : Sheet → ℕ → Result Entry Refusal → List ℕ → Copied
entry_copied sheet n (Ok e) buffer = copied_as (put_of (is_entry sheet n e) (entry_text n e) buffer)
entry_copied sheet n (Err why) buffer = left_as (code_of_parsed (Err why))

abbrev pub form_copied : Sheet → Block → List ℕ → Copied
form_copied sheet (Raw n kind seat a b) buffer = entry_copied sheet n (parsed_of kind seat a b) buffer
form_copied sheet Malformed buffer = left_as (code_of_block Malformed)
form_copied sheet Nothing buffer = left_as (code_of_block Nothing)

unfoldable pub copied_of : Sheet → List ℕ → List ℕ → Copied
copied_of sheet log buffer = form_copied sheet (block_of log) buffer
