-- Request No. 12: the log and the index in their buffers, for a list of taken entries; and the list with one entry replaced. "That the same buffers come back and
-- only the box writes there between calls is a stated premise": it is `Stored` before a call, which the call before it has left behind.
-- Lists of entries have the newest first, as in history. Assumes nothing.
use Rattle.std.specs.Prelude.{ℕ, ◌+◌, ◌≤◌, true, ◌≡◌, List, [], ◌∷◌, ◌++◌, map, eqb, length}
use Rattle.laws.specs.Tests.{pick, one}
use Rattle.paper.specs.SheetAndEntries.{is_sheet, numbers_of}
use Rattle.paper.specs.declared.Sheet.{Sheet}
use Rattle.paper.specs.declared.Entry.{Entry}
use Rattle.writing.specs.AnswerSheet.{over}
use Rattle.records.specs.Stored.{record_bytes, row_bytes}
use Rattle.fresh.specs.Reading.{is_hand, stack_of}
use Rattle.history.specs.History.{run, AllTaken}
use Rattle.ledger.specs.Entering.{stored_most}
use Rattle.ledger.specs.declared.Book.{Book}

-- the records of some entries, joined
abbrev pub records_of : List Entry → List ℕ
records_of [] = []
records_of (e ∷ es) = records_of es ++ record_bytes (numbers_of e)

-- how many hands they open, and the rows of those, joined: where each starts and each stack then, before the blinds
abbrev pub hands_in : List Entry → ℕ
hands_in [] = 0
hands_in (e ∷ es) = hands_in es + one (is_hand e)

abbrev pub row_if : Sheet → List Entry → Entry → List ℕ
row_if sheet es e = pick (is_hand e) (row_bytes (length es + 1) (map stack_of (run sheet es).chairs)) []

abbrev pub rows_of : Sheet → List Entry → List ℕ
rows_of sheet [] = []
rows_of sheet (e ∷ es) = rows_of sheet es ++ row_if sheet es e

-- a book and its two buffers are those of these entries: each was taken, the table is theirs, and both buffers begin with the joined bytes
pub record Stored (sheet : Sheet) (es : List Entry) (b : Book) (log index : List ℕ) : Type 0 where
  pub good : is_sheet sheet ≡ true
  pub all : AllTaken sheet es
  pub table : b.table ≡ run sheet es
  pub hands : b.hands ≡ hands_in es
  pub count : length es ≤ stored_most
  pub records : log ≡ over (records_of es) log
  pub rows : index ≡ over (rows_of sheet es) index

-- the entries with e in the place of the n-th
abbrev pub replaced : ℕ → Entry → List Entry → List Entry
replaced n e [] = []
replaced n e (x ∷ es) = pick (eqb n (length es + 1)) (e ∷ es) (x ∷ replaced n e es)

-- the entries before the n-th
abbrev pub before : ℕ → List Entry → List Entry
before n [] = []
before n (x ∷ es) = pick (eqb n (length es + 1)) es (before n es)
