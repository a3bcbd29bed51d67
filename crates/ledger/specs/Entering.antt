-- Request No. 12: "An entry gets 15, tested after code 3, when 4,096 are stored or a lent buffer lacks room for its record or `hand` row; 12 stands before it too.
-- After 15 the table, the count, log and index are as before". Assumes nothing.
use Rattle.std.specs.Prelude.{ℕ, ◌+◌, ◌*◌, Bool, List, length, eqb, ltb, leb}
use Rattle.laws.specs.Tests.{pick, both, either}
use Rattle.paper.specs.RefusalNumbers.{taken, wrong_moment, not_stored}
use Rattle.paper.specs.SheetAndEntries.{made}
use Rattle.paper.specs.declared.Numbers.{Numbers}
use Rattle.blocks.specs.declared.Block.{Block}
use Rattle.blocks.specs.declared.Block.TheVariants.{Raw, Malformed, Nothing}
use Rattle.writing.specs.AnswerSheet.{written_of, sheet_after}
use Rattle.table.specs.declared.table.Table.{Table}
use Rattle.records.specs.Stored.{record_size, row_size}
use Rattle.desk.specs.Desk.{judge_block, refused_at, judged_bytes}
use Rattle.desk.specs.declared.Judged.{Judged}
use Rattle.ledger.specs.Keeping.{was_taken, answered_as, hands_after, log_after, index_kept}
use Rattle.ledger.specs.declared.Book.{Book}
use Rattle.ledger.specs.declared.Answered.{Answered}

-- so many entries are stored, and no more
abbrev pub stored_most : ℕ
stored_most = 4096

-- no room for one entry more, in buffers of so many bytes
unfoldable pub is_full : ℕ → ℕ → Bool → ℕ → ℕ → Bool
is_full count hands hand log index =
    either (leb stored_most count) (either (ltb log (record_size * count + record_size)) (both hand (ltb index (row_size * hands + row_size))))

-- the numbers of a block, all 0 where it has none
abbrev pub numbers_in : Block → Numbers
numbers_in (Raw n kind seat a b) = made kind seat a b
numbers_in Malformed = made 0 0 0 0
numbers_in Nothing = made 0 0 0 0

-- 15 stands behind 3 and before 4: in place of 0 and of 4 to 10
unfoldable pub held_back : Table → Bool → Judged → Judged
held_back t full j = pick (both full (either (eqb j.code taken) (leb wrong_moment j.code))) (refused_at t j.n not_stored) j

-- an entry judged, where the two buffers have so many bytes
unfoldable pub judged_entry : Book → Block → ℕ → ℕ → Judged
judged_entry b block log index =
    held_back b.table (is_full b.table.taken b.hands (eqb (numbers_in block).kind 2) log index) (judge_block b.table block)

-- ---- its answer, and the three lent slices afterwards

abbrev pub judged_here : Book → Block → List ℕ → List ℕ → Judged
judged_here b block log index = judged_entry b block (length log) (length index)

-- whether it is taken: its code is 0 and its answer has room
abbrev pub taken_here : Book → Block → List ℕ → List ℕ → List ℕ → Bool
taken_here b block log index sheet = was_taken (written_of (judged_bytes (judged_here b block log index)) sheet) (judged_here b block log index).code

unfoldable pub entered_of : Book → Block → List ℕ → List ℕ → List ℕ → Answered
entered_of b block log index sheet =
    answered_as b (judged_here b block log index) (hands_after (taken_here b block log index sheet) b (numbers_in block))
    (written_of (judged_bytes (judged_here b block log index)) sheet)

unfoldable pub log_entered : Book → Block → List ℕ → List ℕ → List ℕ → List ℕ
log_entered b block log index sheet = log_after (taken_here b block log index sheet) b (numbers_in block) log

unfoldable pub index_entered : Book → Block → List ℕ → List ℕ → List ℕ → List ℕ
index_entered b block log index sheet = index_kept (taken_here b block log index sheet) b (numbers_in block) index

unfoldable pub sheet_entered : Book → Block → List ℕ → List ℕ → List ℕ → List ℕ
sheet_entered b block log index sheet = sheet_after (judged_bytes (judged_here b block log index)) sheet
