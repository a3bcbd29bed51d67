-- Request No. 12: "Keep the log in a lent buffer of fixed-size records, up to 4,096 entries, with an index beside it". What is kept between two blocks, and what
-- a block that was judged does to it: "12 stands before it too". Assumes nothing.
use Rattle.std.specs.Prelude.{ℕ, ◌+◌, ◌≤◌, Bool, true, false, ◌≡◌, List, eqb, Result, Ok, Err}
use Rattle.paper.specs.declared.refusal.Refusal.{Refusal}
use Rattle.laws.specs.Tests.{pick}
use Rattle.paper.specs.RefusalNumbers.{taken}
use Rattle.paper.specs.SheetAndEntries.{is_sheet}
use Rattle.paper.specs.declared.Sheet.{Sheet}
use Rattle.paper.specs.declared.Numbers.{Numbers}
use Rattle.writing.specs.Codes.{code_of_written}
use Rattle.table.specs.Take.{Sound, fresh_table}
use Rattle.records.specs.Stored.{put_record}
use Rattle.fresh.specs.Reading.{rowed_of, index_after}
use Rattle.desk.specs.declared.Judged.{Judged}
use Rattle.ledger.specs.declared.Book.{Book}
use Rattle.ledger.specs.declared.Answered.{Answered}

-- before the first entry
abbrev pub opened_of : Sheet → Book
opened_of sheet = record { table = fresh_table sheet; hands = 0 }

-- what a book keeps, whatever lies in the buffers: `opened` establishes it, `enter` and `correct` keep it
pub record Held (b : Book) : Type 0 where
  pub sound : Sound b.table
  pub sheet : is_sheet b.table.sheet ≡ true
  pub hands : b.hands ≤ b.table.taken

-- "12 stands in place of any": a block is taken where its code is 0 and its answer has room
abbrev pub was_taken : Result ℕ Refusal → ℕ → Bool
was_taken (Ok k) code = eqb code taken
was_taken (Err why) code = false

abbrev pub answered_as : Book → Judged → ℕ → Result ℕ Refusal → Answered
answered_as b j hands (Ok k) = record { block = j.block; code = j.code; book = record { table = j.table; hands = hands }; written = k }
answered_as b j hands (Err why) = record { block = j.block; code = code_of_written (Err why); book = b; written = 0 }

-- an entry that is taken, by its numbers: how many hands there are then, the log with its record behind the others, and the index, for a `hand` with its row
abbrev pub hands_after : Bool → Book → Numbers → ℕ
hands_after ok b x = pick ok (rowed_of (eqb x.kind 2) b.hands) b.hands

unfoldable pub log_after : Bool → Book → Numbers → List ℕ → List ℕ
log_after ok b x log = pick ok (put_record log b.table.taken x) log

unfoldable pub index_kept : Bool → Book → Numbers → List ℕ → List ℕ
index_kept ok b x index = pick ok (index_after (eqb x.kind 2) b.hands (b.table.taken + 1) b.table.chairs index) index
