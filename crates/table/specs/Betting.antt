-- Document 01, "Betting", sentence by sentence; and "in turn" of the table of entries. Assumes nothing.
use Rattle.std.specs.Prelude.{ℕ, ◌+◌, ◌-◌, Bool, true, false, not, map, ltb, leb, eqb}
use Rattle.paper.specs.Paper.{wrong_moment, wrong_seat, not_in_turn, not_allowed, when, or_else}
use Rattle.paper.specs.declared.Entry.{Entry}
use Rattle.paper.specs.declared.Entry.TheVariants.{Sit, Leave, Hand, Hole, Fold, Check, Call, Wager, Board, Dead, Settle, Void}
use Rattle.laws.specs.Tests.{both, either, pick}
use Rattle.chairs.specs.Chairs.{is_owing, want_of, count_of, first_of, clockwise, sweep_of, round_of, folded_of, acted_of, paid_of}
use Rattle.chairs.specs.declared.Chair.{Chair}
use Rattle.chairs.specs.Who.{Live, LiveWithChips}
use Rattle.chairs.specs.Sweep.{Again, Round}
use Rattle.table.specs.State.{with_chairs, with_chair, with_turn, with_mark, seat_of}
use Rattle.table.specs.declared.table.Table.{Table}

-- how many hands are live
unfoldable pub live_hands : Table → ℕ
live_hands t = count_of (want_of Live) t.chairs

-- no more than one live seat has chips: one that has is the only live seat with chips
unfoldable pub only_with_chips : Table → Bool
only_with_chips t = leb (count_of (want_of LiveWithChips) t.chairs) 1

-- "A seat owes if it is live, has chips, hasn't acted since the last wager of this round by another, and two hands or more are live; but the only live
-- seat with chips owes nothing once its round total equals the mark."
unfoldable pub owes : Table → Chair → Bool
owes t c = both (leb 2 (live_hands t)) (is_owing t.play.mark (only_with_chips t) c)

-- the first owing seat clockwise from s, which comes last; 0 where nobody owes
unfoldable pub first_owing : Table → ℕ → ℕ
first_owing t s = first_of (owes t) t.chairs (clockwise t.sheet.seats s)

-- nobody owes
abbrev pub nobody_owes : Table → Bool
nobody_owes t = eqb (first_owing t 0) 0

-- fold, check, call and wager: "someone owes"; the seat is "live, in turn"
unfoldable pub turn_code : Table → ℕ → ℕ
turn_code t s =
    or_else (when (nobody_owes t) wrong_moment)
    (or_else (when (not (seat_of t s).dealt.live) wrong_seat) (when (not (eqb t.play.turn s)) not_in_turn))

-- "After fold, check, call, wager, or `dead` for the seat in turn, the turn is the first owing seat clockwise from that seat."
-- Seat s has acted, and its chair is now c
unfoldable pub after_act : Table → ℕ → Chair → Table
after_act t s c = with_turn (with_chair t s c) (first_owing (with_chair t s c) s)

-- fold: the hand is given up; its chips stay in
unfoldable pub folded_to : Table → ℕ → Table
folded_to t s = after_act t s (folded_of (seat_of t s))

-- "check: round total equals the mark."
unfoldable pub check_code : Table → ℕ → ℕ
check_code t s = or_else (turn_code t s) (when (not (eqb (round_of (seat_of t s)) t.play.mark)) not_allowed)

unfoldable pub checked_to : Table → ℕ → Table
checked_to t s = after_act t s (acted_of (seat_of t s))

-- "call: it is below; the seat pays the difference or its whole stack."
unfoldable pub call_code : Table → ℕ → ℕ
call_code t s = or_else (turn_code t s) (when (not (ltb (round_of (seat_of t s)) t.play.mark)) not_allowed)

unfoldable pub called_to : Table → ℕ → Table
called_to t s = after_act t s (acted_of (paid_of (seat_of t s) (t.play.mark - round_of (seat_of t s))))

-- No. 2, "Short raises don't reopen": after a wager that lifts the mark by less than the lift "a seat that made the last full lift or acted since it (or since
-- the round opened, if none came) may then only call or fold. Its wager gets code 7, whole stack or not. A seat that hasn't acted keeps its right to raise."
abbrev pub may_raise : Chair → Bool
may_raise c = not c.dealt.spent

-- "wager to a: a is above the mark; a minus the seat's round total is at most its stack; and either a is at least mark plus lift, or the whole stack goes in";
-- and the seat has its right to raise
unfoldable pub is_wager : Table → Chair → ℕ → Bool
is_wager t c a =
    both (may_raise c)
    (both (ltb t.play.mark a)
    (both (leb (a - round_of c) c.stack)
    (either (eqb (a - round_of c) c.stack) (leb (t.play.mark + t.play.lift) a))))

unfoldable pub wager_code : Table → ℕ → ℕ → ℕ
wager_code t s a = or_else (turn_code t s) (when (not (is_wager t (seat_of t s) a)) not_allowed)

-- a full lift: the mark rises by at least the lift. "Several short lifts don't add up to a full one": the rise is this wager's own
abbrev pub is_full_lift : Table → ℕ → Bool
is_full_lift t a = leb t.play.lift (a - t.play.mark)

-- "If it rose by at least the lift, that rise is the new lift."
abbrev pub lift_after : Table → ℕ → ℕ
lift_after t a = pick (is_full_lift t a) (a - t.play.mark) t.play.lift

-- "The mark becomes a. .. Every other live seat with chips owes again"; after a full lift each has its right to raise, after a short one (No. 2) those who had it
unfoldable pub wagered_to : Table → ℕ → ℕ → Table
wagered_to t s a =
    after_act (with_mark (with_chairs t (map (sweep_of (Again (is_full_lift t a))) t.chairs)) a (lift_after t a)) s
    (acted_of (paid_of (seat_of t s) (a - round_of (seat_of t s))))

-- the acts of a seat in turn: fold, check, call and wager
abbrev pub is_act : Entry → Bool
is_act (Sit s a) = false
is_act (Leave s) = false
is_act (Hand s) = false
is_act (Hole s a b) = false
is_act (Fold s) = true
is_act (Check s) = true
is_act (Call s) = true
is_act (Wager s a) = true
is_act (Board k) = false
is_act (Dead s) = false
is_act Settle = false
is_act Void = false

-- the chair of the seat that acts, after its act
abbrev pub acted_by : Table → Chair → Entry → Chair
acted_by t c (Sit s a) = c
acted_by t c (Leave s) = c
acted_by t c (Hand s) = c
acted_by t c (Hole s a b) = c
acted_by t c (Fold s) = folded_of c
acted_by t c (Check s) = acted_of c
acted_by t c (Call s) = acted_of (paid_of c (t.play.mark - round_of c))
acted_by t c (Wager s a) = acted_of (paid_of c (a - round_of c))
acted_by t c (Board k) = c
acted_by t c (Dead s) = c
acted_by t c Settle = c
acted_by t c Void = c

-- dead: "a hand is open, two live or more"; the seat is "live"
unfoldable pub dead_code : Table → ℕ → ℕ
dead_code t s = or_else (when (either (not t.play.opened) (ltb (live_hands t) 2)) wrong_moment) (when (not (seat_of t s).dealt.live) wrong_seat)

-- "Any other `dead` keeps the turn, or ends it if nobody owes." The turn after `dead` at seat s made t to u
unfoldable pub turn_after : Table → Table → ℕ → ℕ
turn_after t u s = pick (eqb t.play.turn s) (first_owing u s) (pick (nobody_owes u) 0 t.play.turn)

-- "dead: as a fold, in or out of turn."
unfoldable pub dead_to : Table → ℕ → Table
dead_to t s = with_turn (with_chair t s (folded_of (seat_of t s))) (turn_after t (with_chair t s (folded_of (seat_of t s))) s)

-- "a new round opens: round totals and mark 0, lift `big`, nobody has acted, first turn to the first owing seat from the puck seat on": from the seat
-- after the one before it
unfoldable pub new_round : Table → Table
new_round t =
    with_turn (with_mark (with_chairs t (map (sweep_of Round) t.chairs)) 0 t.sheet.big)
    (first_owing (with_mark (with_chairs t (map (sweep_of Round) t.chairs)) 0 t.sheet.big) (t.play.puck - 1))
