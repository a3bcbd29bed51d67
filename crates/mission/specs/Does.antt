-- Document 01, "Sittings", "Opening", "Betting" and "The answer block": what a taken entry does to a table t, so that it is the table u. One record for each kind:
-- what becomes of stacks, totals, mark, lift, turn and of who owes again, and that nothing else moves. Assumes nothing.
use Rattle.std.specs.Prelude.{ℕ, suc, ◌+◌, ◌-◌, ◌≤◌, ◌<◌, min, Bool, true, false, not, ◌≡◌, [], ◌∷◌, get_or, set}
use Rattle.laws.specs.Tests.{both}
use Rattle.paper.specs.declared.Entry.{Entry}
use Rattle.paper.specs.declared.Entry.TheVariants.{Sit, Leave, Hand, Hole, Fold, Check, Call, Wager, Board, Dead, Settle, Void}
use Rattle.chairs.specs.Chairs.{hole_of, round_of, no_dealt, no_hole}
use Rattle.chairs.specs.declared.Chair.{Chair}
use Rattle.table.specs.Betting.{first_owing, nobody_owes}
use Rattle.table.specs.Opening.{next_dealt_in}
use Rattle.table.specs.Settle.{payout_now}
use Rattle.table.specs.State.{seat_of, no_board}
use Rattle.table.specs.declared.table.Table.{Table}

-- ---- what is kept

-- every seat but x
abbrev pub Others : Table → Table → ℕ → Type 0
Others t u x = (y : ℕ) → (x ≡ y → ⊥) → seat_of u y ≡ seat_of t y

-- a chair's people, chips, hand and cards, but not whether it has acted
pub record Still (c d : Chair) : Type 0 where
  pub sitting : d.sitting ≡ c.sitting
  pub stack : d.stack ≡ c.stack
  pub dealt : d.dealt.sitting ≡ c.dealt.sitting
  pub total : d.dealt.total ≡ c.dealt.total
  pub live : d.dealt.live ≡ c.dealt.live
  pub hole : d.hole ≡ c.hole

-- the sheet, the count of sittings, and of the hand whether it is open and its puck
pub record Rest (t u : Table) : Type 0 where
  pub sheet : u.sheet ≡ t.sheet
  pub sittings : u.sittings ≡ t.sittings
  pub opened : u.play.opened ≡ t.play.opened
  pub puck : u.play.puck ≡ t.play.puck

-- with the board, the mark and the lift too
pub record Quiet (t u : Table) : Type 0 where
  pub rest : Rest t u
  pub board : u.board ≡ t.board
  pub mark : u.play.mark ≡ t.play.mark
  pub lift : u.play.lift ≡ t.play.lift

-- m chips go from the stack into the hand; the sitter, the hand and the cards are those before
pub record Puts (c d : Chair) (m : ℕ) : Type 0 where
  pub sitting : d.sitting ≡ c.sitting
  pub stack : d.stack + m ≡ c.stack
  pub dealt : d.dealt.sitting ≡ c.dealt.sitting
  pub total : d.dealt.total ≡ c.dealt.total + m
  pub round : round_of d ≡ round_of c + m
  pub live : d.dealt.live ≡ c.dealt.live
  pub hole : d.hole ≡ c.hole

-- ---- Sittings

-- "Each taken `sit` gets the next sitting number"; the hand record at the seat stays that of the sitting that was dealt in
pub record DoesSit (t : Table) (x a : ℕ) (u : Table) : Type 0 where
  pub sitting : (seat_of u x).sitting ≡ t.sittings + 1
  pub stack : (seat_of u x).stack ≡ a
  pub dealt : (seat_of u x).dealt ≡ (seat_of t x).dealt
  pub hole : (seat_of u x).hole ≡ (seat_of t x).hole
  pub count : u.sittings ≡ t.sittings + 1
  pub others : Others t u x
  pub sheet : u.sheet ≡ t.sheet
  pub play : u.play ≡ t.play
  pub board : u.board ≡ t.board

-- "`leave` pays out the whole stack"
pub record DoesLeave (t : Table) (x : ℕ) (u : Table) : Type 0 where
  pub sitting : (seat_of u x).sitting ≡ 0
  pub stack : (seat_of u x).stack ≡ 0
  pub dealt : (seat_of u x).dealt ≡ (seat_of t x).dealt
  pub hole : (seat_of u x).hole ≡ (seat_of t x).hole
  pub others : Others t u x
  pub quiet : Quiet t u
  pub turn : u.play.turn ≡ t.play.turn

-- ---- Opening

-- what seat y posts where seat p is the puck and q posts the big blind: "each at most its stack"
pub record Posts (t : Table) (p q y : ℕ) (m : ℕ) : Type 0 where
  pub puck : y ≡ p → m ≡ min t.sheet.small (seat_of t y).stack
  pub next : y ≡ q → m ≡ min t.sheet.big (seat_of t y).stack
  pub none : (y ≡ p → ⊥) → (y ≡ q → ⊥) → m ≡ 0

-- "Dealt in is every seat with at least one chip": with m chips of a blind in, no cards, and it has not acted
pub record DealtIn (c d : Chair) (m : ℕ) : Type 0 where
  pub sitting : d.sitting ≡ c.sitting
  pub stack : d.stack + m ≡ c.stack
  pub dealt : 0 < c.stack → (d.dealt.sitting ≡ c.sitting) × (d.dealt.live ≡ true)
  pub out : c.stack ≡ 0 → (d.dealt.sitting ≡ 0) × (d.dealt.live ≡ false)
  pub total : d.dealt.total ≡ m
  pub round : round_of d ≡ m
  pub acted : d.dealt.acted ≡ false
  pub right : d.dealt.spent ≡ false
  pub hole : d.hole ≡ no_hole

-- "The puck sitter posts `small`, the next dealt-in seat posts `big` .. The mark is `big` even if posted short; the lift is `big`. First turn: first owing seat
-- after the big blind."
pub record DoesHand (t : Table) (p : ℕ) (u : Table) : Type 0 where
  pub blinds : (y : ℕ) → (m : ℕ) × Posts t p (next_dealt_in t p) y m × DealtIn (seat_of t y) (seat_of u y) m
  pub opened : u.play.opened ≡ true
  pub puck : u.play.puck ≡ p
  pub mark : u.play.mark ≡ t.sheet.big
  pub lift : u.play.lift ≡ t.sheet.big
  pub turn : u.play.turn ≡ first_owing u (next_dealt_in t p)
  pub sheet : u.sheet ≡ t.sheet
  pub sittings : u.sittings ≡ t.sittings
  pub board : u.board ≡ t.board

pub record DoesHole (t : Table) (x a b : ℕ) (u : Table) : Type 0 where
  -- the first pair, or the second behind it
  pub first : (seat_of t x).hole.count ≡ 0 → ((seat_of u x).hole.count ≡ 2) × (hole_of (seat_of u x) ≡ a ∷ b ∷ [])
  pub second : ((seat_of t x).hole.count ≡ 0 → ⊥) → ((seat_of u x).hole.count ≡ 4) × (hole_of (seat_of u x) ≡ get_or (seat_of t x).hole.cards 0 0 ∷ get_or (seat_of t x).hole.cards 1 0 ∷ a ∷ b ∷ [])
  pub sitting : (seat_of u x).sitting ≡ (seat_of t x).sitting
  pub stack : (seat_of u x).stack ≡ (seat_of t x).stack
  pub dealt : (seat_of u x).dealt ≡ (seat_of t x).dealt
  pub others : Others t u x
  pub quiet : Quiet t u
  pub turn : u.play.turn ≡ t.play.turn

-- ---- Betting

-- the hand is given up; its chips stay in, and the stack is its own
pub record GivenUp (c d : Chair) : Type 0 where
  pub sitting : d.sitting ≡ c.sitting
  pub stack : d.stack ≡ c.stack
  pub dealt : d.dealt.sitting ≡ c.dealt.sitting
  pub total : d.dealt.total ≡ c.dealt.total
  pub live : d.dealt.live ≡ false
  pub hole : d.hole ≡ c.hole

-- "After fold, check, call, wager .. the turn is the first owing seat clockwise from that seat."
pub record DoesFold (t : Table) (x : ℕ) (u : Table) : Type 0 where
  pub hand : GivenUp (seat_of t x) (seat_of u x)
  pub others : Others t u x
  pub quiet : Quiet t u
  pub turn : u.play.turn ≡ first_owing u x

pub record DoesCheck (t : Table) (x : ℕ) (u : Table) : Type 0 where
  pub still : Still (seat_of t x) (seat_of u x)
  pub acted : (seat_of u x).dealt.acted ≡ true
  pub others : Others t u x
  pub quiet : Quiet t u
  pub turn : u.play.turn ≡ first_owing u x

-- "the seat pays the difference or its whole stack"
pub record DoesCall (t : Table) (x : ℕ) (u : Table) : Type 0 where
  pub pays : Puts (seat_of t x) (seat_of u x) (min (t.play.mark - round_of (seat_of t x)) (seat_of t x).stack)
  pub acted : (seat_of u x).dealt.acted ≡ true
  pub others : Others t u x
  pub quiet : Quiet t u
  pub turn : u.play.turn ≡ first_owing u x

-- "Every other live seat with chips owes again": it has not acted since. Its right to raise comes back with a full lift (No. 2)
pub record Again (full : Bool) (c d : Chair) : Type 0 where
  pub still : Still c d
  pub acted : d.dealt.acted ≡ false
  pub right : d.dealt.spent ≡ both c.dealt.spent (not full)

-- "The mark becomes a. If it rose by at least the lift, that rise is the new lift."
pub record DoesWager (t : Table) (x a : ℕ) (u : Table) : Type 0 where
  pub pays : Puts (seat_of t x) (seat_of u x) (a - round_of (seat_of t x))
  pub total : round_of (seat_of t x) ≤ a → round_of (seat_of u x) ≡ a
  pub acted : (seat_of u x).dealt.acted ≡ true
  pub full : Bool
  pub rise : full ≡ true → (t.play.lift ≤ a - t.play.mark) × (u.play.lift ≡ a - t.play.mark)
  pub short : full ≡ false → (a - t.play.mark < t.play.lift) × (u.play.lift ≡ t.play.lift)
  pub others : (y : ℕ) → (x ≡ y → ⊥) → Again full (seat_of t y) (seat_of u y)
  pub mark : u.play.mark ≡ a
  pub turn : u.play.turn ≡ first_owing u x
  pub rest : Rest t u
  pub board : u.board ≡ t.board

-- "dead: as a fold, in or out of turn"; "Any other `dead` keeps the turn, or ends it if nobody owes."
pub record DoesDead (t : Table) (x : ℕ) (u : Table) : Type 0 where
  pub hand : GivenUp (seat_of t x) (seat_of u x)
  pub others : Others t u x
  pub quiet : Quiet t u
  pub turn : t.play.turn ≡ x → u.play.turn ≡ first_owing u x
  pub keeps : (t.play.turn ≡ x → ⊥) → nobody_owes u ≡ false → u.play.turn ≡ t.play.turn
  pub ends : (t.play.turn ≡ x → ⊥) → nobody_owes u ≡ true → u.play.turn ≡ 0

-- "a new round opens: round totals and mark 0, lift `big`, nobody has acted, first turn to the first owing seat from the puck seat on"
pub record NewRound (t u : Table) : Type 0 where
  pub still : (y : ℕ) → Still (seat_of t y) (seat_of u y)
  pub round : (y : ℕ) → round_of (seat_of u y) ≡ 0
  pub acted : (y : ℕ) → (seat_of u y).dealt.acted ≡ false
  pub right : (y : ℕ) → (seat_of u y).dealt.spent ≡ false
  pub mark : u.play.mark ≡ 0
  pub lift : u.play.lift ≡ t.sheet.big
  pub turn : u.play.turn ≡ first_owing u (t.play.puck - 1)

pub record SameRound (t u : Table) : Type 0 where
  pub chairs : u.chairs ≡ t.chairs
  pub play : u.play ≡ t.play

-- "When three, four and five board cards lie, a new round opens"
pub record DoesBoard (t : Table) (k : ℕ) (u : Table) : Type 0 where
  pub count : u.board.count ≡ t.board.count + 1
  pub cards : u.board.cards ≡ set t.board.cards t.board.count k
  pub new : 3 ≤ t.board.count + 1 → NewRound t u
  pub old : t.board.count + 1 < 3 → SameRound t u
  pub rest : Rest t u

-- ---- a hand is settled

-- "`paid` .. is added to that sitter's stack .. and the hand is closed". Seat i + 1 is paid what stands at place i
pub record DoesSettle (t u : Table) : Type 0 where
  pub sitting : (i : ℕ) → (seat_of u (suc i)).sitting ≡ (seat_of t (suc i)).sitting
  pub stack : (i : ℕ) → i < 10 → (seat_of u (suc i)).stack ≡ (seat_of t (suc i)).stack + get_or (payout_now t).paid i 0
  pub dealt : (i : ℕ) → (seat_of u (suc i)).dealt ≡ no_dealt
  pub hole : (i : ℕ) → (seat_of u (suc i)).hole ≡ no_hole
  pub opened : u.play.opened ≡ false
  pub puck : u.play.puck ≡ t.play.puck
  pub mark : u.play.mark ≡ 0
  pub turn : u.play.turn ≡ 0
  pub board : u.board ≡ no_board
  pub sheet : u.sheet ≡ t.sheet
  pub sittings : u.sittings ≡ t.sittings

-- void is never taken
abbrev pub Does : Table → Entry → Table → Type 0
Does t (Sit x a) u = DoesSit t x a u
Does t (Leave x) u = DoesLeave t x u
Does t (Hand p) u = DoesHand t p u
Does t (Hole x a b) u = DoesHole t x a b u
Does t (Fold x) u = DoesFold t x u
Does t (Check x) u = DoesCheck t x u
Does t (Call x) u = DoesCall t x u
Does t (Wager x a) u = DoesWager t x a u
Does t (Board k) u = DoesBoard t k u
Does t (Dead x) u = DoesDead t x u
Does t Settle u = DoesSettle t u
Does t Void u = ⊥
