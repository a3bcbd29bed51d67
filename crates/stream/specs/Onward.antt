-- Request No. 9: "takes the log however the line chops it, with nothing arriving at times, and keeps the unfinished block. Its answers and last state equal those
-- of the whole log read at once with equal room for each answer; an unfinished block gets its code 1 only at the close."
-- The log byte by byte, and the whole log at once, each with `room` bytes for each answer. Assumes nothing.
use Rattle.desk.specs.Log.{opened_of, eleven, fitting, table_in}
use Rattle.paper.specs.declared.Sheet.{Sheet}
use Rattle.paper.specs.declared.refusal.Refusal.TheVariants.{BadSheet}
use Rattle.paper.specs.declared.refusal.Refusal.{Refusal}
use Rattle.std.specs.Prelude.{ℕ, zero, suc, List, [], ◌∷◌, ◌++◌, Bool, true, false, length, eqb, leb, Result, Ok, Err}
use Rattle.laws.specs.Tests.{pick}
use Rattle.paper.specs.RefusalNumbers.{bad_sheet, no_room}
use Rattle.blocks.specs.Block.{rest_of}
use Rattle.text.specs.TableSheet.{sheet_end}
use Rattle.lines.specs.Kept.{Kept, nothing, keep_of}
pub use Rattle.lines.specs.Kept.{lines_of}
use Rattle.table.specs.declared.table.Table.{Table}
use Rattle.table.specs.Take.{fresh_table}
use Rattle.desk.specs.Desk.{judged_of, block_bytes}

-- the box between two bytes: its sheet is not read yet, or was read and it has a table, or was bad
pub data State : Type 0 where
  Unread : State
  Open : Table → State
  Shut : State

-- what bytes lead to: the state, what is kept of the unfinished block, the code of each block that ended (and 11), and what is written
pub record Given : Type 0 where
  pub state : State
  pub kept : Kept
  pub codes : List ℕ
  pub bytes : List ℕ

abbrev pub still : State → Kept → Given
still s k = record { state = s; kept = k; codes = []; bytes = [] }

abbrev pub and_then : Given → Given → Given
and_then x y = record { state = y.state; kept = y.kept; codes = x.codes ++ y.codes; bytes = x.bytes ++ y.bytes }

-- ---- lines that are whole

-- the code of a block: 12 where its answer has no room
unfoldable pub code_in : Table → List ℕ → ℕ → ℕ
code_in t block room = pick (leb (length (block_bytes t block)) room) (judged_of t block).code no_room

-- a block is answered; where the answer has no room nothing is written and the block is not taken
abbrev pub answer_of : ℕ → Table → List ℕ → Given
answer_of room t block = record {
  state = Open (table_in t block room);
  kept = nothing;
  codes = code_in t block room ∷ [];
  bytes = fitting (block_bytes t block) room;
}

-- a sheet opens the table, or is bad and shuts the box
abbrev pub open_of : ℕ → Result Sheet Refusal → Given
open_of room (Ok s) = still (Open (fresh_table s)) nothing
open_of room (Err why) = record { state = Shut; kept = nothing; codes = bad_sheet ∷ []; bytes = fitting eleven room }

abbrev pub lines_done : ℕ → State → List ℕ → Given
lines_done room Unread lines = open_of room (opened_of lines)
lines_done room (Open t) lines = answer_of room t lines
lines_done room Shut lines = still Shut nothing

-- how many lines are read together
abbrev pub wanted : State → ℕ
wanted Unread = lines_of false
wanted (Open t) = lines_of true
wanted Shut = lines_of false

-- ---- byte by byte

abbrev pub is_shut : State → Bool
is_shut Unread = false
is_shut (Open t) = false
is_shut Shut = true

-- one byte: it is kept, and where it is the LF of the last line the lines are done; a box that is shut hears nothing
unfoldable pub byte_of : ℕ → State → Kept → ℕ → Given
byte_of room s k b =
    pick (is_shut s) (still s k)
    (pick (leb (wanted s) (keep_of k b).lines) (lines_done room s (keep_of k b).bytes) (still s (keep_of k b)))

abbrev pub onward : ℕ → State → Kept → List ℕ → Given
onward room s k [] = still s k
onward room s k (b ∷ bs) = and_then (byte_of room s k b) (onward room (byte_of room s k b).state (byte_of room s k b).kept bs)

-- the close: a sheet that is not whole is bad, and a block that is not whole is malformed; nothing kept is no block
abbrev pub closing : ℕ → State → Kept → Given
closing room Unread k = open_of room (Err BadSheet)
closing room (Open t) k = pick (eqb (length k.bytes) 0) (still (Open t) nothing) (answer_of room t k.bytes)
closing room Shut k = still Shut nothing

abbrev pub closed : ℕ → Given → Given
closed room x = and_then x (closing room x.state x.kept)

-- ---- the whole log at once

-- block after block. The first number bounds how many; no log has more blocks than bytes
abbrev pub each_from : ℕ → ℕ → Table → List ℕ → Given
each_from zero room t log = still (Open t) nothing
each_from (suc k) room t log =
    pick (eqb (length log) 0) (still (Open t) nothing) (and_then (answer_of room t log) (each_from k room (table_in t log room) (rest_of log)))

abbrev pub at_once_from : ℕ → Result Sheet Refusal → List ℕ → Given
at_once_from room (Ok s) log = each_from (length log) room (fresh_table s) (sheet_end log)
at_once_from room (Err why) log = open_of room (Err why)

unfoldable pub at_once : ℕ → List ℕ → Given
at_once room log = at_once_from room (opened_of log) log

-- a code that says that there was no room
abbrev pub any_short : List ℕ → Bool
any_short [] = false
any_short (c ∷ cs) = pick (eqb c no_room) true (any_short cs)
