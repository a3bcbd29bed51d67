-- What `Standing` says in the paper's words: the turn is 0 exactly when nobody owes, else it is an owing seat; a live hand's sitter sits there; chairs above
-- `seats` are empty; the big blind is another seat than the puck, and is dealt in. Assumes nothing.
use Prim.Native.Nat.{ℕ, zero, suc, ◌≤◌, ◌<◌}
use mathlib.Core.Bool.{true, false, not, true≢false}
use mathlib.Core.Path.{◌≡◌, refl, sym, ap, ◌∙◌}
use mathlib.Core.Logic.{⊎_elim}
use native.Mathlib.Omega.{arith}
use lib.Dec.{eqb, ltb}
use borrow.Author.Tests.{eqb-true, eqb-false, not-false}
use Rattle.laws.specs.Tests.{both, either}
use Rattle.laws.proofs.Tests.{both_true, test}
use Rattle.paper.specs.Paper.{when, is_seat}
use Rattle.paper.proofs.Codes.{or_zero, when_zero, between_in}
use Rattle.chairs.specs.Chairs.{is_dealt_in, want_of, count_of, no_chair, clockwise}
use Rattle.chairs.specs.declared.Chair.{Chair}
use Rattle.chairs.specs.Who.{Chips}
use Rattle.chairs.proofs.Clockwise.{count_one, clock_some, clock_last, first_holds}
use Rattle.pots.proofs.Contest.{le_or_lt}
use Rattle.table.specs.State.{seat_of}
use Rattle.table.specs.Betting.{owes, first_owing, nobody_owes}
use Rattle.table.specs.Opening.{next_dealt_in, is_puck, hand_code}
use Rattle.table.specs.Standing.{Standing}
use Rattle.table.specs.declared.table.Table.{Table}
use Rattle.table.proofs.ChairsOk.{ok_at}
use Rattle.table.proofs.Codes.{hand_closed}
use Rattle.table.proofs.InTurn.{nobody, somebody}

-- the turn is 0 exactly when nobody owes
pub no_turn_nobody : (t : Table) → Standing t → t.play.turn ≡ 0 → nobody_owes t ≡ true
no_turn_nobody t h z =
    ⊎_elim (λ e. e) (λ (e : nobody_owes t ≡ false). let n = eqb-false (first_owing t 0) 0 e in absurd (true≢false (sym (somebody t 0 n) ∙ h.turn.none z (first_owing t 0)))) (test (nobody_owes t))

pub nobody_no_turn : (t : Table) → Standing t → nobody_owes t ≡ true → t.play.turn ≡ 0
nobody_no_turn t h e =
    ⊎_elim (λ (q : eqb t.play.turn 0 ≡ true). eqb-true t.play.turn 0 q)
    (λ (q : eqb t.play.turn 0 ≡ false). absurd (true≢false (sym (h.turn.some (eqb-false t.play.turn 0 q)) ∙ nobody t 0 h.seated.above (eqb-true (first_owing t 0) 0 e) t.play.turn)))
    (test (eqb t.play.turn 0))

pub turn_none : (t : Table) → Standing t → eqb t.play.turn 0 ≡ nobody_owes t
turn_none t h =
    ⊎_elim (λ (q : eqb t.play.turn 0 ≡ true). q ∙ sym (no_turn_nobody t h (eqb-true t.play.turn 0 q)))
    (λ (q : eqb t.play.turn 0 ≡ false).
    ⊎_elim (λ (e : nobody_owes t ≡ true). absurd (eqb-false t.play.turn 0 q (nobody_no_turn t h e))) (λ (e : nobody_owes t ≡ false). q ∙ sym e) (test (nobody_owes t)))
    (test (eqb t.play.turn 0))

-- else it is an owing seat
pub turn_owes : (t : Table) → Standing t → (t.play.turn ≡ 0 → ⊥) → owes t (seat_of t t.play.turn) ≡ true
turn_owes t h z = h.turn.some z

-- a live hand's sitter sits there
pub live_sits : (t : Table) → Standing t → (s : ℕ) → (seat_of t s).dealt.live ≡ true → (seat_of t s).dealt.sitting ≡ (seat_of t s).sitting
live_sits t h s l = (ok_at t.chairs s h.chairs).here l

-- chairs above `seats` are empty
pub above_empty : (t : Table) → Standing t → (s : ℕ) → t.sheet.seats < s → seat_of t s ≡ no_chair
above_empty t h s l = h.seated.above s l

-- the puck seat is dealt in
pub puck_dealt_in : (t : Table) (p : ℕ) → hand_code t p ≡ 0 → is_dealt_in (seat_of t p) ≡ true
unfolding hand_code is_puck
puck_dealt_in t p q =
    let next = either (eqb t.play.puck 0) (eqb (next_dealt_in t t.play.puck) p) in
    let ok = both (is_dealt_in (seat_of t p)) next in
    let few = either t.play.opened (ltb (count_of (want_of Chips) t.chairs) 2) in
    (both_true (is_dealt_in (seat_of t p)) next (not-false ok (when_zero (not ok) 4 (or_zero (when few 4) (when (not ok) 5) q).1))).0

-- the big blind is dealt in, and another seat than the puck
pub big_blind_dealt_in : (t : Table) (p : ℕ) → is_seat t.sheet p ≡ true → hand_code t p ≡ 0 → is_dealt_in (seat_of t (next_dealt_in t p)) ≡ true
unfolding next_dealt_in is_seat
big_blind_dealt_in t p r q =
    let l = between_in 1 t.sheet.seats p r in
    first_holds (want_of Chips) t.chairs (clockwise t.sheet.seats p) (clock_some (want_of Chips) t.chairs t.sheet.seats p p (omega (arith, l.0)) l.1 (puck_dealt_in t p q))

others_none : (t : Table) (p : ℕ) → Standing t → next_dealt_in t p ≡ p → (y : ℕ) → (y ≡ p → ⊥) → want_of Chips (seat_of t y) ≡ false
unfolding next_dealt_in
others_none t p h e zero n = refl
others_none t p h e (suc k) n =
    ⊎_elim
    (λ (a : suc k ≤ t.sheet.seats). clock_last (want_of Chips) t.chairs t.sheet.seats p (suc k) e (omega arith) a n)
    (λ (a : t.sheet.seats < suc k). ap (λ (c : Chair). want_of Chips c) (h.seated.above (suc k) a))
    (le_or_lt (suc k) t.sheet.seats)

pub big_blind_other : (t : Table) (p : ℕ) → Standing t → hand_code t p ≡ 0 → next_dealt_in t p ≡ p → ⊥
big_blind_other t p h q e = omega (arith, (hand_closed t p q).1, count_one (want_of Chips) t.chairs p (others_none t p h e))
