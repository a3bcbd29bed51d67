-- Request No. 7, the program `pair`: "First the line `pool`, then the nine lines of table 1's sheet, then table 2's .. Then blocks of six lines: `table` (1 or 2), then 01's
-- five." "A good `table` line has its LF and says 1 or 2, and always begins a block .. met among another block's five lines, or at the end of the input, it leaves that
-- block cut short .. Lines that stand where a `table` line is due and are none are of no table: the first of a run of them is answered at once .. the others are passed
-- over (bytes behind the last LF count as such a line)."
-- What any bytes are cut into, as they come, oldest first. Of each line 33 bytes are kept, as at a lone table. Assumes nothing.
use Rattle.std.specs.Prelude.{ℕ, ◌+◌, ◌-◌, ◌<◌, List, [], ◌∷◌, ◌++◌, true, false, length, drop, eqb, ltb, Option, Some, None, Bool}
use Rattle.laws.specs.Tests.{pick}
use Rattle.text.specs.Line.{line_number}
use Rattle.text.specs.TableSheet.{sheet_lines}
use Rattle.lines.specs.Kept.{Kept, nothing, keep_of, Gathered, fill_of, Room}
use Rattle.frames.specs.declared.Frame.{Frame}
use Rattle.frames.specs.declared.Next.{Next}
use Rattle.frames.specs.declared.Heard.{Heard}
use Rattle.frames.specs.declared.Made.{Made}
use Rattle.frames.specs.declared.Which.{Which}
use Rattle.frames.specs.declared.Which.TheVariants.{First, Second}
use Rattle.frames.specs.declared.Due.{Due}
use Rattle.frames.specs.declared.Due.TheVariants.{Pool, Sheet, Table, Stray, Block}
use Rattle.frames.specs.declared.Made.TheVariants as made

-- ---- a `table` line

abbrev pub table_key : List ℕ
table_key = 116 ∷ 97 ∷ 98 ∷ 108 ∷ 101 ∷ []

abbrev pub table_in : Option ℕ → Option Which
table_in (Some v) = pick (eqb v 1) (Some First) (pick (eqb v 2) (Some Second) None)
table_in None = None

-- the table that a line begins a block of, if it is a good `table` line
unfoldable pub table_of : List ℕ → Option Which
table_of line = table_in (line_number table_key line)

-- ---- what is due: the pool's line, the sheet of table 1 or table 2; then a `table` line, first or within a run of lines of no table; or the lines of a block

abbrev pub is_pool : Due → Bool
is_pool Pool = true
is_pool (Sheet w) = false
is_pool Table = false
is_pool Stray = false
is_pool (Block w) = false

abbrev pub in_opening : Due → Bool
in_opening Pool = true
in_opening (Sheet w) = true
in_opening Table = false
in_opening Stray = false
in_opening (Block w) = false

abbrev pub in_block : Due → Bool
in_block Pool = false
in_block (Sheet w) = false
in_block Table = false
in_block Stray = false
in_block (Block w) = true

-- how many lines are gathered for it
abbrev pub wanted : Due → ℕ
wanted Pool = 1
wanted (Sheet w) = sheet_lines
wanted Table = 1
wanted Stray = 1
wanted (Block w) = 5

-- what is due behind a part of the opening
abbrev pub after_part : Due → Due
after_part Pool = Sheet First
after_part (Sheet First) = Sheet Second
after_part (Sheet Second) = Table
after_part Table = Table
after_part Stray = Stray
after_part (Block w) = Block w

-- ---- what a line makes whole

-- a line of the opening or of a block: with its last line it is whole, and something else is due
unfoldable pub kept_next : Due → ℕ → Due → Next
kept_next due lines after =
    pick (ltb lines (wanted due)) (record { due = due; keeps = true; what = None }) (record { due = after; keeps = false; what = Some made.Whole })

-- a good `table` line begins a block, whatever was due; a block that is under way is cut short
abbrev pub table_next : Due → Which → Next
table_next due table = record { due = Block table; keeps = false; what = pick (in_block due) (Some made.Cut) None }

-- any other line: where a `table` line is due it is of no table, and the first of a run of them is answered
abbrev pub other_next : Due → ℕ → Next
other_next Pool lines = record { due = Stray; keeps = false; what = None }
other_next (Sheet w) lines = record { due = Stray; keeps = false; what = None }
other_next Table lines = record { due = Stray; keeps = false; what = Some made.OfNone }
other_next Stray lines = record { due = Stray; keeps = false; what = None }
other_next (Block w) lines = kept_next (Block w) lines Table

-- behind the opening: a line that names that table, if any
abbrev pub late_next : Due → ℕ → Option Which → Next
late_next due lines None = other_next due lines
late_next due lines (Some w) = table_next due w

-- a line, the last of so many that are kept, which names that table
abbrev pub line_next : Due → ℕ → Option Which → Next
line_next due lines table = pick (in_opening due) (kept_next due lines (after_part due)) (late_next due lines table)

-- the end of the input, with so many bytes kept
abbrev pub end_what : Due → ℕ → Option Made
end_what Pool count = Some made.Missing
end_what (Sheet w) count = Some made.Missing
end_what Table count = pick (eqb count 0) None (Some made.OfNone)
end_what Stray count = None
end_what (Block w) count = Some made.Cut

-- ---- the pieces

pub data Piece : Type 0 where
  -- a part of the opening or a block, by what was due, and its lines
  Whole : Due → List ℕ → Piece
  -- a block that is cut short
  Cut : Due → Piece
  -- lines of no table
  OfNone : Piece
  -- the opening is not whole
  Missing : Piece

abbrev pub piece_of : Option Made → Due → List ℕ → List Piece
piece_of None due bytes = []
piece_of (Some made.Whole) due bytes = Whole due bytes ∷ []
piece_of (Some made.Cut) due bytes = Cut due ∷ []
piece_of (Some made.OfNone) due bytes = OfNone ∷ []
piece_of (Some made.Missing) due bytes = Missing ∷ []

-- ---- byte by byte

-- what bytes lead to: what is due, what is kept, and the pieces
pub record Framed : Type 0 where
  pub due : Due
  pub kept : Kept
  pub pieces : List Piece

abbrev pub still : Due → Kept → Framed
still due k = record { due = due; kept = k; pieces = [] }

abbrev pub and_then : Framed → Framed → Framed
and_then x y = record { due = y.due; kept = y.kept; pieces = x.pieces ++ y.pieces }

-- the place where the line that is not ended starts
abbrev pub line_start : Kept → ℕ
line_start k = length k.bytes - k.width

-- what is kept with a line, of which it is the last
abbrev pub line_done : Due → Kept → Next → Framed
line_done due k x = record { due = x.due; kept = pick x.keeps k nothing; pieces = piece_of x.what due k.bytes }

abbrev pub last_line : Due → Kept → ℕ → Next
last_line due k from = line_next due k.lines (table_of (drop from k.bytes))

-- a byte is kept; an LF ends a line
unfoldable pub byte_of : Due → Kept → ℕ → Framed
byte_of due k b =
    pick (ltb k.lines (keep_of k b).lines)
    (line_done due (keep_of k b) (last_line due (keep_of k b) (line_start k)))
    (still due (keep_of k b))

abbrev pub onward : Due → Kept → List ℕ → Framed
onward due k [] = still due k
onward due k (b ∷ bs) = and_then (byte_of due k b) (onward (byte_of due k b).due (byte_of due k b).kept bs)

-- at the end of the input
abbrev pub closing : Framed → List Piece
closing x = x.pieces ++ piece_of (end_what x.due (length x.kept.bytes)) x.due []

-- the pieces of a whole input
abbrev pub pieces_of : List ℕ → List Piece
pieces_of log = closing (onward Pool nothing log)

-- part after part, none and empty ones too
abbrev pub parts_of : Due → Kept → List (List ℕ) → Framed
parts_of due k [] = still due k
parts_of due k (p ∷ ps) = and_then (onward due k p) (parts_of (onward due k p).due (onward due k p).kept ps)

-- ---- what a call says

abbrev pub start_of : Frame
start_of = record { due = Pool; fill = fill_of nothing }

pub record Held (f : Frame) : Type 0 where
  pub room : Room f.fill
  pub lines : f.fill.lines < wanted f.due

abbrev pub whole_heard : Frame → Gathered → Next → Heard
whole_heard f g x = record {
  frame = record { due = x.due; fill = pick x.keeps (fill_of g.kept) (fill_of nothing) };
  used = g.used;
  what = x.what;
  of = f.due;
  count = length g.kept.bytes;
}

abbrev pub kept_heard : Frame → Gathered → Heard
kept_heard f g = record { frame = record { due = f.due; fill = fill_of g.kept }; used = g.used; what = None; of = f.due; count = 0 }

-- after the bytes up to the next LF, or all of a part
unfoldable pub heard_as : Frame → Gathered → Heard
heard_as f g =
    pick (ltb f.fill.lines g.kept.lines)
    (whole_heard f g (last_line f.due g.kept (f.fill.count - f.fill.width)))
    (kept_heard f g)
