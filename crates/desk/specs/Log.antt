-- The whole paper as one function: a log, that is the sheet and then block after block, to what is written.
-- "Reading uses up five lines at a time, whatever the code, 12 too; a last block without its fifth LF is malformed. No bytes left means no block."
-- Refusal 11: "the program writes code=11 and one LF, nothing else, and ends".
use Rattle.std.specs.Prelude.{ℕ, zero, suc, ◌-◌, List, [], ◌++◌, length, eqb, leb, Result, Ok, Err}
use Rattle.paper.specs.declared.refusal.Refusal.{Refusal}
use Rattle.laws.specs.Tests.{pick}
use Rattle.blocks.specs.Block.{rest_of}
use Rattle.paper.specs.declared.Sheet.{Sheet}
use Rattle.text.specs.TableSheet.{sheet_of, sheet_end}
pub use Rattle.text.specs.Codes.{eleven}
use Rattle.table.specs.declared.table.Table.{Table}
use Rattle.table.specs.Take.{fresh_table}
use Rattle.desk.specs.Desk.{judged_of, block_bytes}

-- the answers to the blocks of a log, one after another. The first number bounds how many; no log has more blocks than bytes
abbrev pub blocks_from : ℕ → Table → List ℕ → List ℕ
blocks_from zero t log = []
blocks_from (suc k) t log = pick (eqb (length log) 0) [] (block_bytes t log ++ blocks_from k (judged_of t log).table (rest_of log))

-- No. 7: "Where a pool is shared .. elsewhere nothing is dropped": a lone table goes by its sheet with no drop
abbrev pub lone : Sheet → Sheet
lone s = record {
  seats = s.seats;
  small = s.small;
  big = s.big;
  rate = s.rate;
  cap = s.cap;
  step = s.step;
  game = s.game;
  deck = s.deck;
  drop = 0;
}

abbrev pub lone_read : Result Sheet Refusal → Result Sheet Refusal
lone_read (Ok s) = Ok (lone s)
lone_read (Err why) = Err why

-- the sheet that a lone table goes by
unfoldable pub opened_of : List ℕ → Result Sheet Refusal
opened_of log = lone_read (sheet_of log)

abbrev pub output_from : Result Sheet Refusal → List ℕ → List ℕ
output_from (Ok s) log = blocks_from (length log) (fresh_table s) (sheet_end log)
output_from (Err why) log = eleven

-- what is written for a log
unfoldable pub output_of : List ℕ → List ℕ
output_of log = output_from (opened_of log) log

-- ---- with so much room: a block that does not fit is refused with 12, leaves the table and writes nothing

-- the bytes, where there is room for them, else none
abbrev pub fitting : List ℕ → ℕ → List ℕ
fitting bs room = pick (leb (length bs) room) bs []

abbrev pub table_in : Table → List ℕ → ℕ → Table
table_in t log room = pick (leb (length (block_bytes t log)) room) (judged_of t log).table t

abbrev pub blocks_in : ℕ → Table → List ℕ → ℕ → List ℕ
blocks_in zero t log room = []
blocks_in (suc k) t log room =
    pick (eqb (length log) 0) []
    (fitting (block_bytes t log) room ++ blocks_in k (table_in t log room) (rest_of log) (room - length (fitting (block_bytes t log) room)))

unfoldable pub answers_in : Table → List ℕ → ℕ → List ℕ
answers_in t log room = blocks_in (length log) t log room

abbrev pub output_in_from : Result Sheet Refusal → List ℕ → ℕ → List ℕ
output_in_from (Ok s) log room = answers_in (fresh_table s) (sheet_end log) room
output_in_from (Err why) log room = fitting eleven room

unfoldable pub output_in : List ℕ → ℕ → List ℕ
output_in log room = output_in_from (opened_of log) log room
