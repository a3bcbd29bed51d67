-- Document 01, "Refusal numbers", at the table: codes are 0 and 2 to 10 only; a taken entry moves the count of taken entries by exactly one; after any
-- other code the table is the one before, and nothing is paid. Assumes nothing.
use Prim.Native.Nat.{ℕ, zero, suc, ◌+◌, ◌≤◌}
use mathlib.Core.Bool.{Bool, true, false, not}
use mathlib.Core.Path.{◌≡◌, refl, sym}
use mathlib.Core.Logic.{◌⊎◌, inl, inr}
use native.Mathlib.Omega.{arith}
use borrow.Author.Tests.{eq-eqb, ne_eqb}
use lib.Dec.{eqb, ltb, leb}
use Rattle.laws.specs.Tests.{both, either}
use Rattle.chairs.specs.Chairs.{is_full, chips_of, count_of, want_of, round_of}
use Rattle.chairs.specs.Who.{Chips, Bare}
use Rattle.table.specs.State.{seat_of}
use Rattle.paper.specs.Paper.{when, or_else, in_range}
use Rattle.paper.specs.declared.Entry.{Entry}
use Rattle.paper.specs.declared.Entry.TheVariants.{Sit, Leave, Hand, Hole, Fold, Check, Call, Wager, Board, Dead, Settle, Void}
use Rattle.table.specs.Betting.{live_hands, nobody_owes, is_wager, turn_code, check_code, call_code, wager_code, dead_code}
use Rattle.table.specs.Sittings.{sit_code, leave_code}
use Rattle.table.specs.Opening.{is_puck, hand_code}
use Rattle.table.specs.Dealing.{in_this_hand, hole_code, board_code}
use Rattle.table.specs.Settle.{settle_code, no_payout}
use Rattle.table.specs.Take.{kind_code, code_of, next_of, payout_of}
use Rattle.table.specs.declared.table.Table.{Table}
use Rattle.table.proofs.Sounds.{passed}

-- a code that the table gives
unfoldable Code : ℕ → Type 0
Code k = (k ≡ 0) ⊎ ((2 ≤ k) × (k ≤ 10))

when_code : (b : Bool) (k : ℕ) → 2 ≤ k → k ≤ 10 → Code (when b k)
unfolding Code
when_code true k l u = inr (l, u)
when_code false k l u = inl refl

or_code : (a b : ℕ) → Code a → Code b → Code (or_else a b)
or_code zero b p q = q
or_code (suc a) b p q = p

-- the first of two codes
two : (b : Bool) (k c : ℕ) → 2 ≤ k → k ≤ 10 → Code c → Code (or_else (when b k) c)
two b k c l u q = or_code (when b k) c (when_code b k l u) q

turn_code_law : (t : Table) (s : ℕ) → Code (turn_code t s)
unfolding turn_code
turn_code_law t s =
    let out = not (seat_of t s).dealt.live in
    let other = not (eqb t.play.turn s) in
    two (nobody_owes t) 4 (or_else (when out 5) (when other 6)) (omega arith) (omega arith) (two out 5 (when other 6) (omega arith) (omega arith) (when_code other 6 (omega arith) (omega arith)))

then_seven : (t : Table) (s : ℕ) (b : Bool) → Code (or_else (turn_code t s) (when b 7))
then_seven t s b = or_code (turn_code t s) (when b 7) (turn_code_law t s) (when_code b 7 (omega arith) (omega arith))

hole_code_law : (t : Table) (s a b : ℕ) → Code (hole_code t s a b)
unfolding hole_code
hole_code_law t s a b =
    let off = not t.play.opened in
    let out = either (not (seat_of t s).dealt.live) (is_full t.sheet.game (seat_of t s)) in
    let old = either (eqb a b) (either (in_this_hand t a) (in_this_hand t b)) in
    two off 4 (or_else (when out 5) (when old 8)) (omega arith) (omega arith) (two out 5 (when old 8) (omega arith) (omega arith) (when_code old 8 (omega arith) (omega arith)))

kind_code_law : (t : Table) (e : Entry) → Code (kind_code t e)
unfolding sit_code leave_code hand_code check_code call_code wager_code board_code dead_code settle_code
kind_code_law t (Sit s a) = two (not (eqb (seat_of t s).sitting 0)) 5 _ (omega arith) (omega arith) (when_code (ltb 100000000 (chips_of t.chairs + a)) 9 (omega arith) (omega arith))
kind_code_law t (Leave s) = when_code (either (eqb (seat_of t s).sitting 0) (seat_of t s).dealt.live) 5 (omega arith) (omega arith)
kind_code_law t (Hand s) = two (either t.play.opened (ltb (count_of (want_of Chips) t.chairs) 2)) 4 _ (omega arith) (omega arith) (when_code (not (is_puck t s)) 5 (omega arith) (omega arith))
kind_code_law t (Hole s a b) = hole_code_law t s a b
kind_code_law t (Fold s) = turn_code_law t s
kind_code_law t (Check s) = then_seven t s (not (eqb (round_of (seat_of t s)) t.play.mark))
kind_code_law t (Call s) = then_seven t s (not (ltb (round_of (seat_of t s)) t.play.mark))
kind_code_law t (Wager s a) = then_seven t s (not (is_wager t (seat_of t s) a))
kind_code_law t (Board k) =
    two (either (not t.play.opened) (either (not (nobody_owes t)) (either (ltb (live_hands t) 2) (leb 5 t.board.count)))) 4 _ (omega arith) (omega arith)
    (when_code (in_this_hand t k) 8 (omega arith) (omega arith))
kind_code_law t (Dead s) = two (either (not t.play.opened) (ltb (live_hands t) 2)) 4 _ (omega arith) (omega arith) (when_code (not (seat_of t s).dealt.live) 5 (omega arith) (omega arith))
kind_code_law t Settle =
    two (not (both t.play.opened (either (eqb (live_hands t) 1) (both (nobody_owes t) (eqb t.board.count 5))))) 4 _ (omega arith) (omega arith)
    (when_code (both (leb 2 (live_hands t)) (not (eqb (count_of (want_of (Bare t.sheet.game)) t.chairs) 0))) 10 (omega arith) (omega arith))
kind_code_law t Void = when_code true 4 (omega arith) (omega arith)

-- No. 5: "a third with 5": once all hole cards of the game were entered, a further `hole` in the open hand gets 5, whatever its cards
pub hole_full : (t : Table) (s a b : ℕ) → t.play.opened ≡ true → (seat_of t s).hole.count ≡ t.sheet.game → hole_code t s a b ≡ 5
unfolding hole_code
hole_full t s a b o e = rw (o, eq-eqb (seat_of t s).hole.count t.sheet.game e) (go (seat_of t s).dealt.live _)
  where
    go : (live : Bool) (k : ℕ) → or_else (when (either (not live) true) 5) k ≡ 5
    go true k = refl
    go false k = refl

-- codes are 0 and 2 to 10 only
pub codes : (t : Table) (n : ℕ) (e : Entry) → (code_of t n e ≡ 0) ⊎ ((2 ≤ code_of t n e) × (code_of t n e ≤ 10))
unfolding code_of Code
codes t n e =
    or_code (when (not (in_range t.sheet n e)) 2) (or_else (when (not (eqb (t.taken + 1) n)) 3) (kind_code t e)) (when_code (not (in_range t.sheet n e)) 2 (omega arith) (omega arith))
    (or_code (when (not (eqb (t.taken + 1) n)) 3) (kind_code t e) (when_code (not (eqb (t.taken + 1) n)) 3 (omega arith) (omega arith)) (kind_code_law t e))

-- a taken entry is counted
pub taken_counted : (t : Table) (n : ℕ) (e : Entry) → code_of t n e ≡ 0 → (next_of t n e).taken ≡ t.taken + 1
unfolding next_of
taken_counted t n e q = let p = passed t n e q in rw (eq-eqb (code_of t n e) 0 q) (sym p.next)

-- a refused one changes nothing and pays nothing
pub refused_same : (t : Table) (n : ℕ) (e : Entry) → (code_of t n e ≡ 0 → ⊥) → next_of t n e ≡ t
unfolding next_of
refused_same t n e h = rw (ne_eqb (code_of t n e) 0 h)

pub refused_unpaid : (t : Table) (n : ℕ) (e : Entry) → (code_of t n e ≡ 0 → ⊥) → payout_of t n e ≡ no_payout
unfolding payout_of
refused_unpaid t n e h = rw (ne_eqb (code_of t n e) 0 h)
