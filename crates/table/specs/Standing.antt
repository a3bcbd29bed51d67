-- How chairs, records and turn hang together; part of `Sound`. proofs/Standing.antt shows that a fresh table has it and that every entry, taken or
-- refused, keeps it. Assumes nothing.
use Rattle.std.specs.Prelude.{ℕ, ◌≤◌, true, false, ◌≡◌, length}
use Rattle.laws.specs.Lists.{All}
use Rattle.chairs.specs.Chairs.{no_dealt, Seats}
use Rattle.chairs.specs.declared.Chair.{Chair}
use Rattle.table.specs.State.{seat_of}
use Rattle.table.specs.Betting.{owes}
use Rattle.table.specs.declared.table.Table.{Table}

-- what every chair keeps. A seat where nobody was dealt in has no total and no live hand; a live hand's sitter sits there; an empty seat has no stack
pub record ChairOk (c : Chair) : Type 0 where
  pub start : c.dealt.start ≤ c.dealt.total
  pub none : c.dealt.sitting ≡ 0 → c.dealt.total ≡ 0
  pub dead : c.dealt.sitting ≡ 0 → c.dealt.live ≡ false
  pub here : c.dealt.live ≡ true → c.dealt.sitting ≡ c.sitting
  pub empty : c.sitting ≡ 0 → c.stack ≡ 0

-- the turn is 0 exactly when nobody owes, else it is an owing seat
pub record InTurn (t : Table) : Type 0 where
  pub none : t.play.turn ≡ 0 → (s : ℕ) → owes t (seat_of t s) ≡ false
  pub some : (t.play.turn ≡ 0 → ⊥) → owes t (seat_of t t.play.turn) ≡ true

-- no hand record
abbrev pub Cleared : Chair → Type 0
Cleared c = c.dealt ≡ no_dealt

-- the table's seats are ten at most, and the chairs above them are chairs that nobody ever had
abbrev pub Seated : Table → Type 0
Seated t = Seats t.sheet.seats t.chairs

pub record Standing (t : Table) : Type 0 where
  pub size : length t.chairs ≡ 10
  pub chairs : All ChairOk t.chairs
  pub seated : Seated t
  -- the puck is at a seat, or there was no hand yet
  pub puck : t.play.puck ≤ t.sheet.seats
  -- without a hand there is no hand record
  pub cleared : t.play.opened ≡ false → All Cleared t.chairs
  pub turn : InTurn t
