-- Request No. 1: "Rooms edit logs by hand and send us broken ones." A log copied fair as it comes, byte by byte: the sheet, and every block, is copied or noted as left out at
-- the LF of its last line; what is not whole, at the close. Assumes nothing.
use Rattle.std.specs.Prelude.{ℕ, List, [], ◌∷◌, ◌++◌, Bool, true, false, length, eqb, leb, Result, Ok, Err}
use Rattle.paper.specs.declared.refusal.Refusal.TheVariants.{BadSheet}
use Rattle.paper.specs.declared.refusal.Refusal.{Refusal}
pub use Rattle.laws.specs.Lists.{whole}
use Rattle.laws.specs.Tests.{pick}
use Rattle.paper.specs.declared.Sheet.{Sheet}
use Rattle.text.specs.TableSheet.{sheet_of}
use Rattle.text.specs.Codes.{eleven}
use Rattle.lines.specs.Kept.{Kept, nothing, keep_of, lines_of}
use Rattle.logs.specs.LogText.{sheet_text}
use Rattle.logs.specs.FairCopy.{block_code, block_copy, next_number, note_of}

-- the copier between two bytes: its sheet is not read yet, or was read and so many blocks since, or was bad
pub data State : Type 0 where
  Unread : State
  Open : Sheet → ℕ → State
  Shut : State

-- what bytes lead to: the state, what is kept of the unfinished block, what is copied, and what is said about blocks that are left out
pub record Given : Type 0 where
  pub state : State
  pub kept : Kept
  pub copy : List ℕ
  pub notes : List ℕ

abbrev pub still : State → Kept → Given
still s k = record { state = s; kept = k; copy = []; notes = [] }

abbrev pub and_then : Given → Given → Given
and_then x y = record { state = y.state; kept = y.kept; copy = x.copy ++ y.copy; notes = x.notes ++ y.notes }

-- ---- lines that are whole

-- a block behind the first `count`: it is copied where it is an entry in range, else there is a line about it
abbrev pub block_done : Sheet → ℕ → List ℕ → Given
block_done s count block = record {
  state = Open s (next_number count);
  kept = nothing;
  copy = block_copy s block;
  notes = note_of (next_number count) (block_code s block);
}

-- a sheet is copied, or is bad and shuts the copier
abbrev pub sheet_done : Result Sheet Refusal → Given
sheet_done (Ok s) = record { state = Open s 0; kept = nothing; copy = sheet_text s; notes = [] }
sheet_done (Err why) = record { state = Shut; kept = nothing; copy = []; notes = eleven }

abbrev pub lines_done : State → List ℕ → Given
lines_done Unread lines = sheet_done (sheet_of lines)
lines_done (Open s n) lines = block_done s n lines
lines_done Shut lines = still Shut nothing

-- how many lines are read together
abbrev pub wanted : State → ℕ
wanted Unread = lines_of false
wanted (Open s n) = lines_of true
wanted Shut = lines_of false

-- ---- byte by byte

abbrev pub is_shut : State → Bool
is_shut Unread = false
is_shut (Open s n) = false
is_shut Shut = true

-- one byte: it is kept, and where it is the LF of the last line the lines are done; behind a bad sheet nothing is read
unfoldable pub byte_of : State → Kept → ℕ → Given
byte_of s k b =
    pick (is_shut s) (still s k)
    (pick (leb (wanted s) (keep_of k b).lines) (lines_done s (keep_of k b).bytes) (still s (keep_of k b)))

abbrev pub onward : State → Kept → List ℕ → Given
onward s k [] = still s k
onward s k (b ∷ bs) = and_then (byte_of s k b) (onward (byte_of s k b).state (byte_of s k b).kept bs)

-- the close: a sheet that is not whole is bad, and a block that is not whole is left out; nothing kept is no block
abbrev pub closing : State → Kept → Given
closing Unread k = sheet_done (Err BadSheet)
closing (Open s n) k = pick (eqb (length k.bytes) 0) (still (Open s n) nothing) (block_done s n k.bytes)
closing Shut k = still Shut nothing

abbrev pub closed : Given → Given
closed x = and_then x (closing x.state x.kept)

-- ---- a log in parts, none and empty ones too

-- part after part
abbrev pub parts_of : State → Kept → List (List ℕ) → Given
parts_of s k [] = still s k
parts_of s k (p ∷ ps) = and_then (onward s k p) (parts_of (onward s k p).state (onward s k p).kept ps)
