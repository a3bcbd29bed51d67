-- Request No. 12: "When taken, table, log, index and pots equal that fresh reading", and a refused correction "changes nothing". Assumes nothing.
use Rattle.std.specs.Prelude.{ℕ, ◌-◌, Bool, List}
use Rattle.laws.specs.Tests.{pick}
use Rattle.paper.specs.declared.Numbers.{Numbers}
use Rattle.blocks.specs.Block.{block_of}
use Rattle.writing.specs.AnswerSheet.{written_of, sheet_after}
use Rattle.table.specs.declared.table.Table.{Table}
use Rattle.records.specs.Stored.{entry_in, put_record}
use Rattle.fresh.specs.Reading.{index_to}
use Rattle.desk.specs.Desk.{judged_bytes}
use Rattle.amends.specs.Righting.{right_of, is_right, number_of, judged_right}
use Rattle.amends.specs.declared.Right.{Right}
use Rattle.ledger.specs.Keeping.{was_taken, answered_as}
use Rattle.ledger.specs.Entering.{numbers_in, entered_of, log_entered, index_entered, sheet_entered}
use Rattle.ledger.specs.declared.Book.{Book}
use Rattle.ledger.specs.declared.Answered.{Answered}

-- ---- its answer, and the lent slices afterwards

unfoldable pub log_after : Bool → ℕ → Numbers → List ℕ → List ℕ
log_after ok n x log = pick ok (put_record log (n - 1) x) log

unfoldable pub index_after : Bool → Table → ℕ → Numbers → List ℕ → List ℕ → List ℕ
index_after ok t n x log index = pick ok (index_to t.sheet (entry_in (put_record log (n - 1) x)) t.taken index) index

abbrev pub taken_right : Book → Bool → Right → List ℕ → List ℕ → Bool
taken_right b shared r log sheet = was_taken (written_of (judged_bytes (judged_right b.table shared r log)) sheet) (judged_right b.table shared r log).code

unfoldable pub righted_of : Book → Bool → Right → List ℕ → List ℕ → Answered
righted_of b shared r log sheet = answered_as b (judged_right b.table shared r log) b.hands (written_of (judged_bytes (judged_right b.table shared r log)) sheet)

unfoldable pub log_righted : Book → Bool → Right → List ℕ → List ℕ → List ℕ
log_righted b shared r log sheet = log_after (taken_right b shared r log sheet) (number_of r) (numbers_in r.block) log

unfoldable pub index_righted : Book → Bool → Right → List ℕ → List ℕ → List ℕ → List ℕ
index_righted b shared r log index sheet = index_after (taken_right b shared r log sheet) b.table (number_of r) (numbers_in r.block) log index

unfoldable pub sheet_righted : Book → Bool → Right → List ℕ → List ℕ → List ℕ
sheet_righted b shared r log sheet = sheet_after (judged_bytes (judged_right b.table shared r log)) sheet

-- ---- a block of five lines, or what is left of one at the end of the input: a correction or an entry

unfoldable pub answer_of : Book → Bool → List ℕ → List ℕ → List ℕ → List ℕ → Answered
answer_of b shared lines log index sheet = pick (is_right lines) (righted_of b shared (right_of lines) log sheet) (entered_of b (block_of lines) log index sheet)

unfoldable pub log_of : Book → Bool → List ℕ → List ℕ → List ℕ → List ℕ → List ℕ
log_of b shared lines log index sheet = pick (is_right lines) (log_righted b shared (right_of lines) log sheet) (log_entered b (block_of lines) log index sheet)

unfoldable pub index_of : Book → Bool → List ℕ → List ℕ → List ℕ → List ℕ → List ℕ
index_of b shared lines log index sheet = pick (is_right lines) (index_righted b shared (right_of lines) log index sheet) (index_entered b (block_of lines) log index sheet)

unfoldable pub sheet_of : Book → Bool → List ℕ → List ℕ → List ℕ → List ℕ → List ℕ
sheet_of b shared lines log index sheet = pick (is_right lines) (sheet_righted b shared (right_of lines) log sheet) (sheet_entered b (block_of lines) log index sheet)
