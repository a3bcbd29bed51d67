-- The block at the front of a log, how many bytes it uses up, and whether its fifth LF has come. Assumes nothing.
use Rattle.std.specs.Prelude.{ℕ, ◌+◌, ◌-◌, ◌≤◌, ◌≡◌, List, Bool, length, drop, ltb, Option, Some}
use Rattle.text.specs.Line.{line_len, after_line, after_lines}
use Rattle.blocks.specs.Block.{rest_of, block_of}
use Rattle.blocks.specs.declared.front.Line.{Line}
use Rattle.blocks.specs.declared.front.Front.{Front}

-- the fifth line is ended by an LF
unfoldable pub block_ended : List ℕ → Bool
block_ended log = ltb (line_len (after_lines 4 log)) (length (after_lines 4 log))

abbrev pub front_of : List ℕ → Front
front_of log = record { block = block_of log; used = length log - length (rest_of log); whole = block_ended log }

-- a line of the log whose reading is x, read at one go: its value, and where its LF is
abbrev pub AtOneGo : Option ℕ → List ℕ → Line → Type 0
AtOneGo x log r = (r.next ≤ length log) × (x ≡ Some r.value) × (after_line log ≡ drop r.next log) × (r.next ≡ line_len log + 1)
