-- What the clerk keeps between two calls, how far a call goes, and what it does with the bytes that it uses up: what they do one by one. Assumes nothing.
use Rattle.std.specs.Prelude.{ℕ, ◌-◌, ◌≤◌, ◌<◌, ◌≡◌, List, Bool, true, false, length, take, drop}
use Rattle.laws.specs.Tests.{pick, both}
use Rattle.writing.specs.AnswerSheet.{over, Wrote}
use Rattle.lines.specs.declared.Fill.{Fill}
use Rattle.lines.specs.Kept.{Kept, nothing, Gathered, gather_of, kept_in, fill_of, Room}
use Rattle.table.specs.declared.table.Table.{Table}
use Rattle.paper.specs.Paper.{stand_in}
use Rattle.answers.specs.Answer.{longest}
use Rattle.table.specs.Take.{Sound, fresh_table}
use Rattle.stream.specs.declared.Clerk.{Clerk}
use Rattle.stream.specs.declared.Fed.{Fed}
use Rattle.stream.specs.Onward.{State, Unread, Open, Shut, Given, any_short, lines_of, onward}
use Rattle.stream.specs.InPlace.{answers_front, in_place_of, ran_of, awaits_block}

-- no answer is longer
abbrev pub longest_answer : ℕ
longest_answer = longest

-- ---- the clerk between two calls

-- while the sheet is not known to be bad
abbrev pub state_at : Bool → Table → State
state_at opened t = pick opened (Open t) Unread

unfoldable pub state_of : Clerk → State
state_of c = pick c.shut Shut (state_at c.opened c.table)

abbrev pub kept_by : Clerk → List ℕ → Kept
kept_by c buf = kept_in c.fill buf

-- the clerk in a state, with the buffer's fill; where it has no table of its own the stand-in stays
abbrev pub clerk_in : Table → State → Fill → Clerk
clerk_in t Unread m = record { opened = false; shut = false; table = t; fill = m }
clerk_in t (Open u) m = record { opened = true; shut = false; table = u; fill = m }
clerk_in t Shut m = record { opened = false; shut = true; table = t; fill = m }

-- what it keeps
pub record Held (c : Clerk) : Type 0 where
  pub sound : Sound c.table
  pub room : Room c.fill
  pub lines : c.fill.lines < lines_of c.opened
  pub shut : c.shut ≡ true → c.opened ≡ false

-- before the first byte: nothing is read and nothing kept; the table is a stand-in until the sheet is read
abbrev pub start_of : Clerk
start_of = clerk_in (fresh_table stand_in) Unread (fill_of nothing)

-- ---- what a call does

-- what was given to bytes is what a call says and has written: the clerk, the front of the sheet with the count of its bytes, and whether an answer had no room
pub record Gave (t : Table) (x : Given) (out out2 : List ℕ) (d : Clerk) (written : ℕ) (told : Bool) : Type 0 where
  pub clerk : d ≡ clerk_in t x.state (fill_of x.kept)
  pub wrote : Wrote x.bytes out out2 written
  pub short : told ≡ any_short x.codes

-- what the bytes of a part that are used up lead to, with so much room for each answer
abbrev pub heard_of : ℕ → Clerk → List ℕ → List ℕ → ℕ → Given
heard_of room c buf part used = onward room (state_of c) (kept_by c buf) (take used part)

-- the promise of a call: with the bytes that it used up it has done what they do one by one
pub record FedOn (room : ℕ) (c : Clerk) (buf part out buf2 out2 : List ℕ) (r : Fed) : Type 0 where
  pub gave : Gave c.table (heard_of room c buf part r.used) out out2 r.clerk r.written r.short
  pub kept : kept_by r.clerk buf2 ≡ (heard_of room c buf part r.used).kept

-- with room for any answer at each call: the clerk that had heard the part up to one place has heard it up to another
abbrev pub HeardTo : Clerk → List ℕ → List ℕ → ℕ → Clerk → List ℕ → ℕ → Type 0
HeardTo c buf part from d buf2 to =
    (from ≤ to)
    × (state_of d ≡ (heard_of longest_answer c buf (drop from part) (to - from)).state)
    × (kept_by d buf2 ≡ (heard_of longest_answer c buf (drop from part) (to - from)).kept)

-- ---- how far `feed` goes

-- the clerk awaits a block, and the part begins with one to be answered
abbrev pub goes_in_place : Clerk → List ℕ → ℕ → Bool
goes_in_place c part room = both (awaits_block c.opened c.fill) (answers_front c.table part room)

abbrev pub gathered_by : Clerk → List ℕ → List ℕ → Gathered
gathered_by c buf part = gather_of (lines_of c.opened) (kept_by c buf) part

-- over the whole blocks at the front of the part whose answers have room; where the first has none, or a block was begun before: to its end, or to the end of the part
unfoldable pub used_of : Clerk → List ℕ → List ℕ → ℕ → ℕ
used_of c buf part room =
    pick c.shut (length part)
    (pick (goes_in_place c part room) (ran_of (in_place_of c.table part room) part).used (gathered_by c buf part).used)

-- the buffer then
unfoldable pub buffer_of : Clerk → List ℕ → List ℕ → ℕ → List ℕ
buffer_of c buf part room = pick c.shut buf (pick (goes_in_place c part room) buf (over (gathered_by c buf part).kept.bytes buf))
