-- What the copier keeps between two calls, how far a call goes, and what it does with the bytes that it uses up: what they do one by one. Assumes nothing.
use Rattle.std.specs.Prelude.{ℕ, ◌-◌, ◌≤◌, ◌<◌, ◌≡◌, List, Bool, true, false, length, take, drop}
use Rattle.laws.specs.Tests.{pick}
use Rattle.writing.specs.AnswerSheet.{over, Wrote}
use Rattle.paper.specs.Paper.{stand_in}
use Rattle.paper.specs.declared.Sheet.{Sheet}
use Rattle.lines.specs.declared.Fill.{Fill}
use Rattle.lines.specs.Kept.{Kept, nothing, Gathered, gather_of, kept_in, fill_of, Room, lines_of}
use Rattle.copier.specs.declared.Copier.{Copier}
use Rattle.copier.specs.declared.Fed.{Fed}
use Rattle.copier.specs.Onward.{State, Unread, Open, Shut, Given, onward}

-- ---- the copier between two calls

-- while the sheet is not known to be bad
abbrev pub state_at : Bool → Sheet → ℕ → State
state_at opened s n = pick opened (Open s n) Unread

unfoldable pub state_of : Copier → State
state_of c = pick c.shut Shut (state_at c.opened c.sheet c.count)

abbrev pub kept_by : Copier → List ℕ → Kept
kept_by c buf = kept_in c.fill buf

-- the copier in a state, with the buffer's fill; where it has no sheet of its own a stand-in is there
abbrev pub copier_in : State → Fill → Copier
copier_in Unread m = record { opened = false; shut = false; sheet = stand_in; count = 0; fill = m }
copier_in (Open s n) m = record { opened = true; shut = false; sheet = s; count = n; fill = m }
copier_in Shut m = record { opened = false; shut = true; sheet = stand_in; count = 0; fill = m }

-- what it keeps
pub record Held (c : Copier) : Type 0 where
  pub own : c ≡ copier_in (state_of c) c.fill
  pub room : Room c.fill
  pub lines : c.fill.lines < lines_of c.opened

-- before the first byte
abbrev pub start_of : Copier
start_of = copier_in Unread (fill_of nothing)

-- ---- what a call does

-- what was given to bytes is what a call says and has written: the copier, the front of the copy and the front of the notes, each with the count of its bytes
pub record Gave (x : Given) (copy notes copy2 notes2 : List ℕ) (d : Copier) (written noted : ℕ) : Type 0 where
  pub copier : d ≡ copier_in x.state (fill_of x.kept)
  pub copied : Wrote x.copy copy copy2 written
  pub said : Wrote x.notes notes notes2 noted

-- what the bytes of a part that are used up lead to
abbrev pub heard_of : Copier → List ℕ → List ℕ → ℕ → Given
heard_of c buf part used = onward (state_of c) (kept_by c buf) (take used part)

-- the promise of a call: with the bytes that it used up it has done what they do one by one
pub record FedOn (c : Copier) (buf part copy notes buf2 copy2 notes2 : List ℕ) (r : Fed) : Type 0 where
  pub gave : Gave (heard_of c buf part r.used) copy notes copy2 notes2 r.copier r.written r.noted
  pub kept : kept_by r.copier buf2 ≡ (heard_of c buf part r.used).kept

-- the copier that had heard the part up to one place has heard it up to another
abbrev pub HeardTo : Copier → List ℕ → List ℕ → ℕ → Copier → List ℕ → ℕ → Type 0
HeardTo c buf part from d buf2 to =
    (from ≤ to)
    × (state_of d ≡ (heard_of c buf (drop from part) (to - from)).state)
    × (kept_by d buf2 ≡ (heard_of c buf (drop from part) (to - from)).kept)

-- ---- how far a call goes

abbrev pub gathered_by : Copier → List ℕ → List ℕ → Gathered
gathered_by c buf part = gather_of (lines_of c.opened) (kept_by c buf) part

-- to the end of the sheet or of a block, or to the end of the part
unfoldable pub used_of : Copier → List ℕ → List ℕ → ℕ
used_of c buf part = pick c.shut (length part) (gathered_by c buf part).used

-- the buffer then
unfoldable pub buffer_of : Copier → List ℕ → List ℕ → List ℕ
buffer_of c buf part = pick c.shut buf (over (gathered_by c buf part).kept.bytes buf)
