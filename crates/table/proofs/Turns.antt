-- The mark stays at most 100,000,000 and the turn at most 10, whatever entry is taken. Assumes nothing.
use Prim.Native.Nat.{ℕ, zero, suc, ◌+◌, ◌-◌, ◌≤◌}
use mathlib.Core.Bool.{Bool, true, false}
use mathlib.Core.Path.{◌≡◌}
use mathlib.Core.List.{List, ◌++◌}
use native.Mathlib.Omega.{arith}
use lib.Dec.{eqb, leb}
use Rattle.paper.specs.Paper.{between, is_seat, in_kind}
use Rattle.laws.specs.Tests.{pick}
use Rattle.paper.proofs.Codes.{between_in}
use Rattle.laws.proofs.Tests.{both_true}
use Rattle.paper.specs.declared.Entry.{Entry}
use Rattle.paper.specs.declared.Entry.TheVariants.{Sit, Leave, Hand, Hole, Fold, Check, Call, Wager, Board, Dead, Settle, Void}
use Rattle.chairs.specs.Chairs.{chair_at, first_of, seats_from, clockwise, want_of}
use Rattle.chairs.specs.declared.Chair.{Chair}
use Rattle.chairs.specs.Who.{Chips}
use Rattle.table.specs.Betting.{owes, first_owing, after_act, nobody_owes, turn_after, folded_to, checked_to, called_to, wagered_to, dead_to, new_round}
use Rattle.table.specs.Sittings.{sat_to, left_to}
use Rattle.table.specs.Opening.{next_dealt_in, opened_to, posted_to}
use Rattle.table.specs.Dealing.{held_to, boarded_to}
use Rattle.table.specs.Settle.{settled_to}
use Rattle.table.specs.Take.{Sound, applied_to}
use Rattle.table.specs.declared.table.Table.{Table}
use Rattle.table.proofs.Laws.{sheet_seats, sheet_big}

pick_most : (b : Bool) (x y most : ℕ) → x ≤ most → y ≤ most → pick b x y ≤ most
pick_most true x y most p q = p
pick_most false x y most p q = q

-- the first of some seats is one of them, or 0
run_most : (p : Chair → Bool) (cs : List Chair) (k m most : ℕ) → k + m ≤ most → first_of p cs (seats_from k m) ≤ most
run_most p cs k zero most h = omega arith
run_most p cs k (suc m) most h = pick_most (p (chair_at cs (suc k))) (suc k) _ most (omega arith) (run_most p cs (suc k) m most (omega arith))

runs_most : (p : Chair → Bool) (cs : List Chair) (k m most : ℕ) (ss : List ℕ) → k + m ≤ most → first_of p cs ss ≤ most → first_of p cs (seats_from k m ++ ss) ≤ most
runs_most p cs k zero most ss h q = q
runs_most p cs k (suc m) most ss h q = pick_most (p (chair_at cs (suc k))) (suc k) _ most (omega arith) (runs_most p cs (suc k) m most ss (omega arith) q)

pub clockwise_most : (p : Chair → Bool) (cs : List Chair) (n s most : ℕ) → n ≤ most → s ≤ most → first_of p cs (clockwise n s) ≤ most
clockwise_most p cs n s most h q = runs_most p cs s (n - s) most (seats_from 0 s) (omega arith) (run_most p cs 0 s most (omega arith))

pub owing_most : (t : Table) (s : ℕ) → t.sheet.seats ≤ 10 → s ≤ 10 → first_owing t s ≤ 10
unfolding first_owing
owing_most t s h q = clockwise_most (owes t) t.chairs t.sheet.seats s 10 h q

chips_most : (t : Table) (s : ℕ) → t.sheet.seats ≤ 10 → s ≤ 10 → next_dealt_in t s ≤ 10
unfolding next_dealt_in
chips_most t s h q = clockwise_most (want_of Chips) t.chairs t.sheet.seats s 10 h q

-- the mark and the turn of a table are small
abbrev SmallPlay : Table → Type 0
SmallPlay t = (t.play.mark ≤ 100000000) × (t.play.turn ≤ 10)

small_pick : (b : Bool) (t u : Table) → SmallPlay t → SmallPlay u → SmallPlay (pick b t u)
small_pick true t u p q = p
small_pick false t u p q = q

pub seat_in : (t : Table) (s : ℕ) → Sound t → is_seat t.sheet s ≡ true → s ≤ 10
unfolding is_seat
seat_in t s h q = omega (arith, (between_in 1 t.sheet.seats s q).1, sheet_seats t.sheet h.payable.sheet)

dead_turn : (t u : Table) (s : ℕ) → Sound t → u.sheet.seats ≤ 10 → s ≤ 10 → turn_after t u s ≤ 10
unfolding turn_after
dead_turn t u s h v q =
    pick_most (eqb t.play.turn s) _ _ 10 (owing_most u s v q) (pick_most (nobody_owes u) 0 t.play.turn 10 (omega arith) h.turn)

pub marks : (t : Table) (e : Entry) → Sound t → in_kind t.sheet e ≡ true → SmallPlay (applied_to t e)
unfolding folded_to checked_to called_to wagered_to sat_to left_to dead_to held_to boarded_to opened_to new_round posted_to after_act settled_to
marks t (Sit s a) h r = (h.mark, h.turn)
marks t (Leave s) h r = (h.mark, h.turn)
marks t (Hand s) h r =
    let v = sheet_seats t.sheet h.payable.sheet in
    (omega (arith, sheet_big t.sheet h.payable.sheet), owing_most _ (next_dealt_in t s) v (chips_most t s v (seat_in t s h r)))
marks t (Hole s a b) h r = (h.mark, h.turn)
marks t (Fold s) h r = (h.mark, owing_most _ s (sheet_seats t.sheet h.payable.sheet) (seat_in t s h r))
marks t (Check s) h r = (h.mark, owing_most _ s (sheet_seats t.sheet h.payable.sheet) (seat_in t s h r))
marks t (Call s) h r = (h.mark, owing_most _ s (sheet_seats t.sheet h.payable.sheet) (seat_in t s h r))
marks t (Wager s a) h r =
    let p = both_true (is_seat t.sheet s) (between 1 100000000 a) r in
    ((between_in 1 100000000 a p.1).1, owing_most _ s (sheet_seats t.sheet h.payable.sheet) (seat_in t s h p.0))
marks t (Board k) h r =
    small_pick (leb 3 (t.board.count + 1)) _ _
    (omega arith, owing_most _ (t.play.puck - 1) (sheet_seats t.sheet h.payable.sheet) (omega (arith, h.payable.puck)))
    (h.mark, h.turn)
marks t (Dead s) h r = (h.mark, dead_turn t _ s h (sheet_seats t.sheet h.payable.sheet) (seat_in t s h r))
marks t Settle h r = (omega arith, omega arith)
marks t Void h r = (h.mark, h.turn)
