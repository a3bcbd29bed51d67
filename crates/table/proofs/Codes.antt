-- What a code of 0 says of the seat and of the moment, kind by kind. Assumes nothing.
use Prim.Native.Nat.{ℕ, ◌+◌, ◌-◌, ◌≤◌}
use mathlib.Core.Bool.{true, false, not}
use mathlib.Core.Path.{◌≡◌}
use lib.Dec.{eqb, ltb, leb}
use native.Mathlib.Omega.{arith}
use borrow.Author.Tests.{eqb-true, not-false, leb-true, ltb-false}
use Rattle.paper.specs.Paper.{when, or_else}
use Rattle.laws.specs.Tests.{both, either}
use Rattle.paper.proofs.Codes.{or_zero, when_zero}
use Rattle.laws.proofs.Tests.{either_false, both_true}
use Rattle.chairs.specs.Chairs.{round_of, is_full, chips_of, count_of, want_of}
use Rattle.chairs.specs.Who.{Chips}
use Rattle.table.specs.State.{seat_of}
use Rattle.table.specs.Betting.{live_hands, nobody_owes, turn_code, check_code, call_code, wager_code, dead_code, may_raise, is_wager}
use Rattle.table.specs.Sittings.{sit_code, leave_code}
use Rattle.table.specs.Opening.{is_puck, hand_code}
use Rattle.table.specs.Dealing.{in_this_hand, hole_code, board_code}
use Rattle.table.specs.declared.table.Table.{Table}

pub turn_live : (t : Table) (x : ℕ) → turn_code t x ≡ 0 → (seat_of t x).dealt.live ≡ true
unfolding turn_code
turn_live t x h =
    let l = (seat_of t x).dealt.live in
    let rest = or_else (when (not l) 5) (when (not (eqb t.play.turn x)) 6) in
    not-false l (when_zero (not l) 4 (or_zero (when (not l) 5) (when (not (eqb t.play.turn x)) 6) (or_zero (when (nobody_owes t) 4) rest h).1).0)

pub check_live : (t : Table) (x : ℕ) → check_code t x ≡ 0 → (seat_of t x).dealt.live ≡ true
unfolding check_code
check_live t x h = turn_live t x (or_zero (turn_code t x) (when (not (eqb (round_of (seat_of t x)) t.play.mark)) 7) h).0

pub call_live : (t : Table) (x : ℕ) → call_code t x ≡ 0 → (seat_of t x).dealt.live ≡ true
unfolding call_code
call_live t x h = turn_live t x (or_zero (turn_code t x) (when (not (ltb (round_of (seat_of t x)) t.play.mark)) 7) h).0

pub wager_live : (t : Table) (x a : ℕ) → wager_code t x a ≡ 0 → (seat_of t x).dealt.live ≡ true
unfolding wager_code
wager_live t x a h = turn_live t x (or_zero (turn_code t x) (when (not (is_wager t (seat_of t x) a)) 7) h).0

pub wager_fits : (t : Table) (x a : ℕ) → wager_code t x a ≡ 0 → a - round_of (seat_of t x) ≤ (seat_of t x).stack
unfolding wager_code is_wager
wager_fits t x a h =
    let c = seat_of t x in
    let over = ltb t.play.mark a in
    let fits = leb (a - round_of c) c.stack in
    let big = either (eqb (a - round_of c) c.stack) (leb (t.play.mark + t.play.lift) a) in
    let ok = both (may_raise c) (both over (both fits big)) in
    let e = not-false ok (when_zero (not ok) 6 (or_zero (turn_code t x) (when (not ok) 7) h).1) in
    let m = (both_true (may_raise c) (both over (both fits big)) e).1 in
    leb-true (a - round_of c) c.stack (both_true fits big (both_true over (both fits big) m).1).0

pub dead_live : (t : Table) (x : ℕ) → dead_code t x ≡ 0 → (seat_of t x).dealt.live ≡ true
unfolding dead_code
dead_live t x h =
    let l = (seat_of t x).dealt.live in
    not-false l (when_zero (not l) 4 (or_zero (when (either (not t.play.opened) (ltb (live_hands t) 2)) 4) (when (not l) 5) h).1)

pub sit_empty : (t : Table) (x a : ℕ) → sit_code t x a ≡ 0 → (seat_of t x).sitting ≡ 0
unfolding sit_code
sit_empty t x a h =
    let b = eqb (seat_of t x).sitting 0 in
    eqb-true (seat_of t x).sitting 0 (not-false b (when_zero (not b) 4 (or_zero (when (not b) 5) (when (ltb 100000000 (chips_of t.chairs + a)) 9) h).0))

pub leave_dead : (t : Table) (x : ℕ) → leave_code t x ≡ 0 → (seat_of t x).dealt.live ≡ false
unfolding leave_code
leave_dead t x h = (either_false (eqb (seat_of t x).sitting 0) (seat_of t x).dealt.live (when_zero (either (eqb (seat_of t x).sitting 0) (seat_of t x).dealt.live) 4 h)).1

-- hole and board: a hand is open
pub hole_open : (t : Table) (x a b : ℕ) → hole_code t x a b ≡ 0 → t.play.opened ≡ true
unfolding hole_code
hole_open t x a b h =
    let o = t.play.opened in
    not-false o (when_zero (not o) 3 (or_zero (when (not o) 4) (or_else (when (either (not (seat_of t x).dealt.live) (is_full t.sheet.game (seat_of t x))) 5) (when (either (eqb a b) (either (in_this_hand t a) (in_this_hand t b))) 8)) h).0)

pub board_open : (t : Table) (k : ℕ) → board_code t k ≡ 0 → t.play.opened ≡ true
unfolding board_code
board_open t k h =
    let o = t.play.opened in
    let rest = either (not (nobody_owes t)) (either (ltb (live_hands t) 2) (leb 5 t.board.count)) in
    not-false o (either_false (not o) rest (when_zero (either (not o) rest) 3 (or_zero (when (either (not o) rest) 4) (when (in_this_hand t k) 8) h).0)).0

-- hand: no hand is open, and two seats or more hold chips
pub hand_closed : (t : Table) (x : ℕ) → hand_code t x ≡ 0 → (t.play.opened ≡ false) × (2 ≤ count_of (want_of Chips) t.chairs)
unfolding hand_code
hand_closed t x h =
    let few = ltb (count_of (want_of Chips) t.chairs) 2 in
    let p = either_false t.play.opened few (when_zero (either t.play.opened few) 3 (or_zero (when (either t.play.opened few) 4) (when (not (is_puck t x)) 5) h).0) in
    (p.0, omega (arith, ltb-false (count_of (want_of Chips) t.chairs) 2 p.1))
