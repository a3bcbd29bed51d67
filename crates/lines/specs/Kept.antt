-- Request No. 9: "takes the log however the line chops it .. and keeps the unfinished block .. A line that grows past 32 bytes is marked bad at once,
-- but its block still ends at its fifth LF." For any count of lines that are read together: a block's five or the sheet's. Assumes nothing.
use Rattle.std.specs.Prelude.{ℕ, suc, ◌+◌, ◌*◌, ◌≤◌, ◌≡◌, List, [], ◌∷◌, ◌++◌, Bool, true, false, length, take, eqb, ltb, leb}
use Rattle.laws.specs.Tests.{pick}
use Rattle.text.specs.TableSheet.{sheet_lines, sheet_room}
use Rattle.lines.specs.declared.Fill.{Fill}
use Rattle.lines.specs.declared.Progress.{Progress}

-- what is kept of unfinished lines: bytes, how many LFs are among them, how many bytes stand behind the last LF, and whether a line has grown past 32 bytes
pub record Kept : Type 0 where
  pub bytes : List ℕ
  pub lines : ℕ
  pub width : ℕ
  pub bad : Bool

abbrev pub nothing : Kept
nothing = record { bytes = []; lines = 0; width = 0; bad = false }

-- a line of so many bytes grows by one: with the 33rd it is too long
unfoldable pub bad_of : ℕ → Bool → Bool
bad_of width bad = pick (eqb width 32) true bad

-- one byte more: a line that has 33 bytes grows no further; an LF ends it, be it too long or not
unfoldable pub keep_of : Kept → ℕ → Kept
keep_of k b =
    pick (eqb b 10) (record { bytes = k.bytes ++ (b ∷ []); lines = k.lines + 1; width = 0; bad = k.bad })
    (pick (ltb k.width 33) (record { bytes = k.bytes ++ (b ∷ []); lines = k.lines; width = k.width + 1; bad = bad_of k.width k.bad }) k)

abbrev pub keep_all : Kept → List ℕ → Kept
keep_all k [] = k
keep_all k (b ∷ bs) = keep_all (keep_of k b) bs

-- how many lines are read together: before the sheet was read the sheet's, then a block's five
abbrev pub lines_of : Bool → ℕ
lines_of opened = pick opened 5 sheet_lines

-- what is kept after a part of the log, and how many of its bytes are used up
pub record Gathered : Type 0 where
  pub kept : Kept
  pub used : ℕ

abbrev pub further : Gathered → Gathered
further g = record { kept = g.kept; used = suc g.used }

-- up to the LF of the last of so many lines, or all
abbrev pub gather_of : ℕ → Kept → List ℕ → Gathered
gather_of want k [] = record { kept = k; used = 0 }
gather_of want k (b ∷ bs) = pick (leb want (keep_of k b).lines) (record { kept = keep_of k b; used = 1 }) (further (gather_of want (keep_of k b) bs))

-- ---- as it lies in a lent buffer: the bytes at its front, and how far it is filled

abbrev pub kept_in : Fill → List ℕ → Kept
kept_in m buf = record { bytes = take m.count buf; lines = m.lines; width = m.width; bad = m.bad }

abbrev pub fill_of : Kept → Fill
fill_of k = record { count = length k.bytes; lines = k.lines; width = k.width; bad = k.bad }

abbrev pub progress_of : Gathered → Progress
progress_of g = record { fill = fill_of g.kept; used = g.used }

-- the sheet's lines, each with 33 bytes and its LF
abbrev pub kept_most : ℕ
kept_most = sheet_room

-- what is kept fits the buffer; a line that is too long is there
pub record Room (m : Fill) : Type 0 where
  pub count : m.count ≤ m.lines * 34 + m.width
  pub least : m.width ≤ m.count
  pub bad : m.bad ≡ true → 33 ≤ m.count
  pub width : m.width ≤ 33
  pub lines : m.lines ≤ sheet_lines
  pub most : m.count ≤ kept_most
