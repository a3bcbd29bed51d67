-- Document 01, the table of entries, "Opening" and "Betting": when an entry is allowed, said as conditions and not as a code. One record for each kind.
-- Assumes nothing.
use Rattle.std.specs.Prelude.{ℕ, ◌+◌, ◌-◌, ◌≤◌, ◌<◌, true, false, ◌≡◌, ◌⊎◌}
use Rattle.paper.specs.Paper.{in_range}
use Rattle.paper.specs.declared.Entry.{Entry}
use Rattle.paper.specs.declared.Entry.TheVariants.{Sit, Leave, Hand, Hole, Fold, Check, Call, Wager, Board, Dead, Settle, Void}
use Rattle.chairs.specs.Chairs.{count_of, want_of, round_of, chips_of}
use Rattle.chairs.specs.declared.Chair.{Chair}
use Rattle.chairs.specs.Who.{LiveWithChips, Chips, Bare}
use Rattle.table.specs.Betting.{live_hands}
use Rattle.table.specs.Dealing.{in_this_hand}
use Rattle.table.specs.Opening.{next_dealt_in}
use Rattle.table.specs.State.{seat_of}
use Rattle.table.specs.declared.table.Table.{Table}

-- "A seat owes if it is live, has chips, hasn't acted since the last wager of this round by another, and two hands or more are live; but the only live
-- seat with chips owes nothing once its round total equals the mark."
pub record Owes (t : Table) (c : Chair) : Type 0 where
  pub live : c.dealt.live ≡ true
  pub chips : 0 < c.stack
  pub waits : c.dealt.acted ≡ false
  pub two : 2 ≤ live_hands t
  pub unless : count_of (want_of LiveWithChips) t.chairs ≤ 1 → round_of c ≡ t.play.mark → ⊥

-- someone owes: a seat of the table does
pub record SomeoneOwes (t : Table) : Type 0 where
  pub seat : ℕ
  pub first : 0 < seat
  pub last : seat ≤ t.sheet.seats
  pub owes : Owes t (seat_of t seat)

-- sit: always; an empty seat; stacks plus chips in the open hand plus a do not exceed 100,000,000
pub record MaySit (t : Table) (s a : ℕ) : Type 0 where
  pub empty : (seat_of t s).sitting ≡ 0
  pub room : chips_of t.chairs + a ≤ 100000000

-- leave: always; occupied, its sitter not live in a hand
pub record MayLeave (t : Table) (s : ℕ) : Type 0 where
  pub occupied : (seat_of t s).sitting ≡ 0 → ⊥
  pub out : (seat_of t s).dealt.live ≡ false

-- hand: no hand, and two seats or more hold chips. "The puck seat must be dealt in; after a first hand it must be the first dealt-in seat clockwise after
-- the last hand's puck."
pub record MayOpen (t : Table) (s : ℕ) : Type 0 where
  pub none : t.play.opened ≡ false
  pub two : 2 ≤ count_of (want_of Chips) t.chairs
  pub dealt : 0 < (seat_of t s).stack
  pub next : (t.play.puck ≡ 0) ⊎ (next_dealt_in t t.play.puck ≡ s)

-- hole: a hand is open; live, not all hole cards of the game yet; two different cards that are not in this hand
pub record MayHole (t : Table) (s a b : ℕ) : Type 0 where
  pub opened : t.play.opened ≡ true
  pub live : (seat_of t s).dealt.live ≡ true
  pub few : (seat_of t s).hole.count ≡ t.sheet.game → ⊥
  pub two : a ≡ b → ⊥
  pub first : in_this_hand t a ≡ false
  pub second : in_this_hand t b ≡ false

-- fold, check, call, wager: someone owes; live, in turn
pub record MayAct (t : Table) (s : ℕ) : Type 0 where
  pub owed : SomeoneOwes t
  pub live : (seat_of t s).dealt.live ≡ true
  pub turn : t.play.turn ≡ s

-- check: round total equals the mark
pub record MayCheck (t : Table) (s : ℕ) : Type 0 where
  pub act : MayAct t s
  pub level : round_of (seat_of t s) ≡ t.play.mark

-- call: it is below
pub record MayCall (t : Table) (s : ℕ) : Type 0 where
  pub act : MayAct t s
  pub below : round_of (seat_of t s) < t.play.mark

-- wager to a: a is above the mark; a minus the seat's round total is at most its stack; and either a is at least mark plus lift, or the whole stack goes in.
-- No. 2: a seat that made the last full lift or acted since it (or since the round opened, if none came) may only call or fold
pub record MayWager (t : Table) (s a : ℕ) : Type 0 where
  pub act : MayAct t s
  pub right : (seat_of t s).dealt.spent ≡ false
  pub above : t.play.mark < a
  pub within : a - round_of (seat_of t s) ≤ (seat_of t s).stack
  pub enough : (t.play.mark + t.play.lift ≤ a) ⊎ (a - round_of (seat_of t s) ≡ (seat_of t s).stack)

-- board: nobody owes, two live or more, under five board cards; a card that is not in this hand
pub record MayBoard (t : Table) (k : ℕ) : Type 0 where
  pub opened : t.play.opened ≡ true
  pub unowed : SomeoneOwes t → ⊥
  pub two : 2 ≤ live_hands t
  pub under : t.board.count < 5
  pub fresh : in_this_hand t k ≡ false

-- dead: a hand is open, two live or more; live
pub record MayDead (t : Table) (s : ℕ) : Type 0 where
  pub opened : t.play.opened ≡ true
  pub two : 2 ≤ live_hands t
  pub live : (seat_of t s).dealt.live ≡ true

-- settle: one live; or nobody owes and five board cards lie. With two live or more no live seat is without all its cards
pub record MaySettle (t : Table) : Type 0 where
  pub opened : t.play.opened ≡ true
  pub moment : (live_hands t ≡ 1) ⊎ ((SomeoneOwes t → ⊥) × (t.board.count ≡ 5))
  pub cards : 2 ≤ live_hands t → count_of (want_of (Bare t.sheet.game)) t.chairs ≡ 0

-- void: never in this edition
abbrev pub May : Table → Entry → Type 0
May t (Sit s a) = MaySit t s a
May t (Leave s) = MayLeave t s
May t (Hand s) = MayOpen t s
May t (Hole s a b) = MayHole t s a b
May t (Fold s) = MayAct t s
May t (Check s) = MayCheck t s
May t (Call s) = MayCall t s
May t (Wager s a) = MayWager t s a
May t (Board k) = MayBoard t k
May t (Dead s) = MayDead t s
May t Settle = MaySettle t
May t Void = ⊥

-- the whole: its numbers are in their ranges, n is one more than the count of entries taken so far, and its kind is allowed now
pub record Allowed (t : Table) (n : ℕ) (e : Entry) : Type 0 where
  pub ranges : in_range t.sheet n e ≡ true
  pub next : n ≡ t.taken + 1
  pub may : May t e
