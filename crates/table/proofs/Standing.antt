-- `Standing` holds of a fresh table, and every entry, taken or refused, keeps it: the chairs' records, the chairs above `seats`, no record without a hand,
-- and the turn. Assumes nothing.
use Prim.Native.Nat.{ℕ, zero, suc, ◌+◌, ◌-◌, ◌≤◌}
use mathlib.Core.Bool.{Bool, true, false, not, true≢false}
use mathlib.Core.Path.{◌≡◌, refl, sym, ap, ap₂, ◌∙◌}
use mathlib.Core.List.{List, [], ◌∷◌, map}
use mathlib.Core.Logic.{⊎_elim}
use native.Mathlib.Omega.{arith}
use lib.Dec.{eqb, leb, ltb}
use lib.ListN.{get_or, replicate}
use borrow.Author.Tests.{eqb-true}
use Rattle.laws.specs.Tests.{both, pick}
use Rattle.laws.specs.Lists.{All}
use Rattle.laws.proofs.Tests.{both_true, test}
use Rattle.paper.specs.Paper.{between, is_seat, is_card, is_sheet, in_kind}
use Rattle.paper.proofs.Codes.{between_in}
use Rattle.paper.specs.declared.Sheet.{Sheet}
use Rattle.paper.specs.declared.Entry.{Entry}
use Rattle.paper.specs.declared.Entry.TheVariants.{Sit, Leave, Hand, Hole, Fold, Check, Call, Wager, Board, Dead, Settle, Void}
use Rattle.chairs.specs.Chairs.{Above, no_chair, chair_at, put_at, want_of, round_of, paid_of, acted_of, folded_of, again_of, rounded_of, dealt_of, seated_of, held_of, closed_of, close_all}
use Rattle.chairs.specs.declared.Chair.{Chair}
use Rattle.chairs.specs.declared.Dealt.{Dealt}
use Rattle.chairs.specs.Who.{Chips}
use Rattle.chairs.specs.Sweep.{Deal}
use Rattle.chairs.proofs.Over.{all_at, all_put, all_map}
use Rattle.chairs.proofs.Above.{above_put, above_map, seats_put, seats_sweep}
use Rattle.table.specs.State.{seat_of, with_chair, with_chairs, with_mark, with_card, with_taken}
use Rattle.table.specs.Betting.{live_hands, only_with_chips, owes, after_act, folded_to, checked_to, called_to, wagered_to, dead_to, new_round, is_full_lift, lift_after}
use Rattle.table.specs.Sittings.{sat_to, left_to}
use Rattle.table.specs.Opening.{next_dealt_in, posted_to, blinds_posted, with_hand, opened_to}
use Rattle.table.specs.Dealing.{held_to, boarded_to}
use Rattle.table.specs.Settle.{settled_to, payout_now}
use Rattle.table.specs.Take.{Sound, kind_code, code_of, applied_to, next_of, fresh_table}
use Rattle.table.specs.Standing.{ChairOk, Cleared, InTurn, Seated, Standing}
use Rattle.table.specs.declared.table.Table.{Table}
use Rattle.table.proofs.ChairsOk.{no_ok, ok_at, ok_sit, ok_leave, ok_hold, ok_acts, ok_fold, ok_round, ok_pays, live_some, empty_dead, deal_fresh, Fresh, fresh_ok, fresh_post}
use Rattle.table.proofs.Codes.{turn_live, check_live, call_live, wager_live, dead_live, sit_empty, leave_dead, hole_open, board_open}
use Rattle.table.proofs.Closing.{size_applied, ok_close, paid_none, paid_above}
use Rattle.table.proofs.Turns.{clockwise_most, marks}
use Rattle.table.proofs.Numbers.{numbered_applied, none_numbered}
use Rattle.table.proofs.InTurn.{not_live, from_first, same_turn, one_chair, dead_turn}
use Rattle.table.proofs.Laws.{sheet_seats}
use Rattle.table.proofs.Sounds.{passed, sound_applied}

-- what neither a card nor a new round changes, `board` leaves as it is
board_leaves : {B : Type 0} (f : Table → B) (t : Table) (k : ℕ) → f (new_round (with_card t k)) ≡ f t → f (with_card t k) ≡ f t → f (boarded_to t k) ≡ f t
unfolding boarded_to
board_leaves f t k r c = go (leb 3 (t.board.count + 1))
  where
    go : (b : Bool) → f (pick b (new_round (with_card t k)) (with_card t k)) ≡ f t
    go true = r
    go false = c

-- ---- every chair
chairs_board : (t : Table) (k : ℕ) → All ChairOk t.chairs → All ChairOk (boarded_to t k).chairs
unfolding boarded_to new_round
chairs_board t k h = go (leb 3 (t.board.count + 1))
  where
    go : (b : Bool) → All ChairOk (pick b (new_round (with_card t k)) (with_card t k)).chairs
    go true = all_map ChairOk ChairOk rounded_of t.chairs h ok_round
    go false = h

chairs_pays : (t : Table) (x m : ℕ) → All ChairOk t.chairs → (seat_of t x).dealt.live ≡ true → ChairOk (acted_of (paid_of (seat_of t x) m))
chairs_pays t x m h l =
    let o = ok_at t.chairs x h in
    ok_acts true true (paid_of (seat_of t x) m) (ok_pays (seat_of t x) m o (λ z. absurd (live_some (seat_of t x) o l z)))

chairs_applied : (t : Table) (e : Entry) → Sound t → Standing t → kind_code t e ≡ 0 → All ChairOk (applied_to t e).chairs
unfolding sat_to left_to opened_to posted_to held_to folded_to checked_to called_to wagered_to dead_to settled_to after_act
chairs_applied t (Sit x a) w h q = all_put ChairOk t.chairs x _ h.chairs (ok_sit (seat_of t x) t.sittings a (ok_at t.chairs x h.chairs) (sit_empty t x a q))
chairs_applied t (Leave x) w h q = all_put ChairOk t.chairs x _ h.chairs (ok_leave (seat_of t x) (ok_at t.chairs x h.chairs) (leave_dead t x q))
chairs_applied t (Hand p) w h q =
    let ds = map dealt_of t.chairs in
    let es = put_at ds p (paid_of (chair_at ds p) t.sheet.small) in
    let f = all_map ChairOk Fresh dealt_of t.chairs h.chairs deal_fresh in
    fresh_ok (put_at es (next_dealt_in t p) (paid_of (chair_at es (next_dealt_in t p)) t.sheet.big)) (fresh_post es (next_dealt_in t p) t.sheet.big (fresh_post ds p t.sheet.small f))
chairs_applied t (Hole x a b) w h q = all_put ChairOk t.chairs x _ h.chairs (ok_hold (seat_of t x) a b (ok_at t.chairs x h.chairs))
chairs_applied t (Fold x) w h q = all_put ChairOk t.chairs x _ h.chairs (ok_fold (seat_of t x) (ok_at t.chairs x h.chairs))
chairs_applied t (Check x) w h q = all_put ChairOk t.chairs x _ h.chairs (ok_acts true true (seat_of t x) (ok_at t.chairs x h.chairs))
chairs_applied t (Call x) w h q = all_put ChairOk t.chairs x _ h.chairs (chairs_pays t x _ h.chairs (call_live t x q))
chairs_applied t (Wager x a) w h q = all_put ChairOk _ x _ (all_map ChairOk ChairOk (again_of (is_full_lift t a)) t.chairs h.chairs (λ c. ok_acts false _ c)) (chairs_pays t x _ h.chairs (wager_live t x a q))
chairs_applied t (Board k) w h q = chairs_board t k h.chairs
chairs_applied t (Dead x) w h q = all_put ChairOk t.chairs x _ h.chairs (ok_fold (seat_of t x) (ok_at t.chairs x h.chairs))
chairs_applied t Settle w h q =
    ok_close t.chairs (payout_now t).paid h.chairs (λ i l e. paid_none t i h.chairs h.size w.payable.puck (omega (arith, h.size)) e)
chairs_applied t Void w h q = absurd (omega arith)

-- ---- the chairs above `seats`
close_none : (cs : List Chair) (ps : List ℕ) (i : ℕ) → get_or cs i no_chair ≡ no_chair → get_or ps i 0 ≡ 0 → get_or (close_all cs ps) i no_chair ≡ no_chair
close_none [] ps i e z = refl
close_none (c ∷ cs) [] zero e z = ap (λ (d : Chair). closed_of d 0) e
close_none (c ∷ cs) [] (suc i) e z = close_none cs [] i e refl
close_none (c ∷ cs) (p ∷ ps) zero e z = ap₂ closed_of e z
close_none (c ∷ cs) (p ∷ ps) (suc i) e z = close_none cs ps i e z

above_close : (t : Table) → Standing t → Above t.sheet.seats (close_all t.chairs (payout_now t).paid)
above_close t h zero k = refl
above_close t h (suc i) k = close_none t.chairs (payout_now t).paid i (h.seated.above (suc i) k) (paid_above t h i (omega arith))

above_board : (t : Table) (k : ℕ) → Above t.sheet.seats t.chairs → Above t.sheet.seats (boarded_to t k).chairs
unfolding boarded_to new_round
above_board t k h = go (leb 3 (t.board.count + 1))
  where
    go : (b : Bool) → Above t.sheet.seats (pick b (new_round (with_card t k)) (with_card t k)).chairs
    go true = above_map rounded_of refl t.sheet.seats t.chairs h
    go false = h

pub seat_within : (sheet : Sheet) (x : ℕ) → is_seat sheet x ≡ true → x ≤ sheet.seats
unfolding is_seat
seat_within sheet x r = (between_in 1 sheet.seats x r).1

pub next_within : (t : Table) (p : ℕ) → p ≤ t.sheet.seats → next_dealt_in t p ≤ t.sheet.seats
unfolding next_dealt_in
next_within t p l = clockwise_most (want_of Chips) t.chairs t.sheet.seats p t.sheet.seats (omega arith) l

-- the table once the blinds are posted
posted_seated : (t : Table) (x a : ℕ) → Seated t → x ≤ t.sheet.seats → Seated (posted_to t x a)
unfolding posted_to
posted_seated t x a h l = seats_put t.sheet.seats t.chairs x _ l h

pub blinds_seated : (t : Table) (s : ℕ) → Seated t → s ≤ t.sheet.seats → Seated (with_hand (blinds_posted t s) s)
unfolding posted_to
blinds_seated t s h l =
    let d = with_chairs t (map dealt_of t.chairs) in
    posted_seated (posted_to d s t.sheet.small) (next_dealt_in t s) t.sheet.big (posted_seated d s t.sheet.small (seats_sweep Deal t.sheet.seats t.chairs h) l) (next_within t s l)

above_applied : (t : Table) (e : Entry) → Sound t → Standing t → in_kind t.sheet e ≡ true → Above t.sheet.seats (applied_to t e).chairs
unfolding sat_to left_to opened_to posted_to held_to folded_to checked_to called_to wagered_to dead_to settled_to after_act
above_applied t (Sit x a) w h r = above_put t.sheet.seats t.chairs x _ (seat_within t.sheet x (both_true (is_seat t.sheet x) (between 1 1000000 a) r).0) h.seated.above
above_applied t (Leave x) w h r = above_put t.sheet.seats t.chairs x _ (seat_within t.sheet x r) h.seated.above
above_applied t (Hand p) w h r =
    let l = seat_within t.sheet p r in
    above_put t.sheet.seats _ (next_dealt_in t p) _ (next_within t p l) (above_put t.sheet.seats _ p _ l (above_map dealt_of refl t.sheet.seats t.chairs h.seated.above))
above_applied t (Hole x a b) w h r = above_put t.sheet.seats t.chairs x _ (seat_within t.sheet x (both_true (is_seat t.sheet x) (both (is_card t.sheet.deck a) (is_card t.sheet.deck b)) r).0) h.seated.above
above_applied t (Fold x) w h r = above_put t.sheet.seats t.chairs x _ (seat_within t.sheet x r) h.seated.above
above_applied t (Check x) w h r = above_put t.sheet.seats t.chairs x _ (seat_within t.sheet x r) h.seated.above
above_applied t (Call x) w h r = above_put t.sheet.seats t.chairs x _ (seat_within t.sheet x r) h.seated.above
above_applied t (Wager x a) w h r =
    above_put t.sheet.seats _ x _ (seat_within t.sheet x (both_true (is_seat t.sheet x) (between 1 100000000 a) r).0) (above_map (again_of (is_full_lift t a)) refl t.sheet.seats t.chairs h.seated.above)
above_applied t (Board k) w h r = above_board t k h.seated.above
above_applied t (Dead x) w h r = above_put t.sheet.seats t.chairs x _ (seat_within t.sheet x r) h.seated.above
above_applied t Settle w h r = above_close t h
above_applied t Void w h r = h.seated.above

-- ---- without a hand there is no hand record
live_closed : (t : Table) → Standing t → t.play.opened ≡ false → (x : ℕ) → (seat_of t x).dealt.live ≡ false
live_closed t h o x = ap (λ (d : Dealt). d.live) (all_at Cleared t.chairs x refl (h.cleared o))

close_cleared : (cs : List Chair) (ps : List ℕ) → All Cleared (close_all cs ps)
close_cleared [] ps = tt
close_cleared (c ∷ cs) [] = (refl, close_cleared cs [])
close_cleared (c ∷ cs) (p ∷ ps) = (refl, close_cleared cs ps)

cleared_applied : (t : Table) (e : Entry) → Standing t → kind_code t e ≡ 0 → (applied_to t e).play.opened ≡ false → All Cleared (applied_to t e).chairs
unfolding sat_to left_to opened_to held_to folded_to checked_to called_to wagered_to dead_to settled_to after_act new_round
cleared_applied t (Sit x a) h q o = all_put Cleared t.chairs x _ (h.cleared o) (all_at Cleared t.chairs x refl (h.cleared o))
cleared_applied t (Leave x) h q o = all_put Cleared t.chairs x _ (h.cleared o) (all_at Cleared t.chairs x refl (h.cleared o))
cleared_applied t (Hand p) h q o = absurd (true≢false o)
cleared_applied t (Hole x a b) h q o = absurd (true≢false (sym (hole_open t x a b q) ∙ o))
cleared_applied t (Fold x) h q o = absurd (true≢false (sym (turn_live t x q) ∙ live_closed t h o x))
cleared_applied t (Check x) h q o = absurd (true≢false (sym (check_live t x q) ∙ live_closed t h o x))
cleared_applied t (Call x) h q o = absurd (true≢false (sym (call_live t x q) ∙ live_closed t h o x))
cleared_applied t (Wager x a) h q o = absurd (true≢false (sym (wager_live t x a q) ∙ live_closed t h o x))
cleared_applied t (Board k) h q o = absurd (true≢false (sym (board_open t k q) ∙ sym (board_leaves (λ u. u.play.opened) t k refl refl) ∙ o))
cleared_applied t (Dead x) h q o = absurd (true≢false (sym (dead_live t x q) ∙ live_closed t h o x))
cleared_applied t Settle h q o = close_cleared t.chairs (payout_now t).paid
cleared_applied t Void h q o = absurd (omega arith)

-- ---- the turn
-- a chair whose hand is not live, before and after
still_out : (t : Table) (x k a : ℕ) → (seat_of t x).dealt.live ≡ false → (y : ℕ)
    → owes (with_chair t x (seated_of (seat_of t x) k a)) (seat_of (with_chair t x (seated_of (seat_of t x) k a)) y) ≡ owes t (seat_of t y)
still_out t x k a l y =
    one_chair t x (seated_of (seat_of t x) k a) refl
    (ap (λ (b : Bool). both b (ltb 0 a)) l ∙ sym (ap (λ (b : Bool). both b (ltb 0 (seat_of t x).stack)) l))
    (λ m b. ap (λ (z : Bool). both (both z (ltb 0 a)) (rest m b)) l ∙ sym (ap (λ (z : Bool). both (both z (ltb 0 (seat_of t x).stack)) (rest m b)) l)) y
  where
    rest : ℕ → Bool → Bool
    rest m b = both (not (seat_of t x).dealt.acted) (not (both b (eqb (round_of (seat_of t x)) m)))

turn_board : (t : Table) (k : ℕ) → Standing t → InTurn (boarded_to t k)
unfolding boarded_to new_round owes live_hands only_with_chips
turn_board t k h = go (leb 3 (t.board.count + 1))
  where
    go : (b : Bool) → InTurn (pick b (new_round (with_card t k)) (with_card t k))
    go true =
        let u = with_mark (with_chairs (with_card t k) (map rounded_of t.chairs)) 0 t.sheet.big in
        from_first u (t.play.puck - 1) (above_map rounded_of refl t.sheet.seats t.chairs h.seated.above)
    go false = same_turn t (with_card t k) refl (λ x. refl) h.turn

turn_settle : (t : Table) → InTurn (settled_to t)
unfolding settled_to
turn_settle t =
    record {
      none = λ z x. not_live (settled_to t) (seat_of (settled_to t) x) (ap (λ (d : Dealt). d.live) (all_at Cleared (close_all t.chairs (payout_now t).paid) x refl (close_cleared t.chairs (payout_now t).paid)));
      some = λ z. absurd (z refl);
    }

turn_applied : (t : Table) (e : Entry) → Sound t → Standing t → in_kind t.sheet e ≡ true → kind_code t e ≡ 0 → InTurn (applied_to t e)
unfolding sat_to left_to opened_to posted_to held_to folded_to checked_to called_to wagered_to after_act owes live_hands only_with_chips
turn_applied t (Sit x a) w h r q = same_turn t (sat_to t x a) refl (still_out t x (t.sittings + 1) a (empty_dead (seat_of t x) (ok_at t.chairs x h.chairs) (sit_empty t x a q))) h.turn
turn_applied t (Leave x) w h r q = same_turn t (left_to t x) refl (still_out t x 0 0 (leave_dead t x q)) h.turn
turn_applied t (Hand p) w h r q = from_first (with_hand (blinds_posted t p) p) (next_dealt_in t p) (above_applied t (Hand p) w h r)
turn_applied t (Hole x a b) w h r q = same_turn t (held_to t x a b) refl (one_chair t x (held_of (seat_of t x) a b) refl refl (λ m b. refl)) h.turn
turn_applied t (Fold x) w h r q = from_first (with_chair t x (folded_of (seat_of t x))) x (above_applied t (Fold x) w h r)
turn_applied t (Check x) w h r q = from_first (with_chair t x (acted_of (seat_of t x))) x (above_applied t (Check x) w h r)
turn_applied t (Call x) w h r q = from_first (with_chair t x (acted_of (paid_of (seat_of t x) (t.play.mark - round_of (seat_of t x))))) x (above_applied t (Call x) w h r)
turn_applied t (Wager x a) w h r q =
    let u = with_mark (with_chairs t (map (again_of (is_full_lift t a)) t.chairs)) a (lift_after t a) in
    from_first (with_chair u x (acted_of (paid_of (seat_of t x) (a - round_of (seat_of t x))))) x (above_applied t (Wager x a) w h r)
turn_applied t (Board k) w h r q = turn_board t k h
turn_applied t (Dead x) w h r q = dead_turn t x (above_put t.sheet.seats t.chairs x _ (seat_within t.sheet x r) h.seated.above) h.turn
turn_applied t Settle w h r q = turn_settle t
turn_applied t Void w h r q = absurd (omega arith)

-- ---- all of it
-- no entry changes the sheet
pub sheet_applied : (t : Table) (e : Entry) → (applied_to t e).sheet ≡ t.sheet
unfolding sat_to left_to opened_to posted_to held_to folded_to checked_to called_to wagered_to dead_to settled_to after_act new_round
sheet_applied t (Sit x a) = refl
sheet_applied t (Leave x) = refl
sheet_applied t (Hand p) = refl
sheet_applied t (Hole x a b) = refl
sheet_applied t (Fold x) = refl
sheet_applied t (Check x) = refl
sheet_applied t (Call x) = refl
sheet_applied t (Wager x a) = refl
sheet_applied t (Board k) = board_leaves (λ u. u.sheet) t k refl refl
sheet_applied t (Dead x) = refl
sheet_applied t Settle = refl
sheet_applied t Void = refl

-- the puck moves with a hand alone, to a seat
puck_applied : (t : Table) (e : Entry) → Standing t → in_kind t.sheet e ≡ true → (applied_to t e).play.puck ≤ t.sheet.seats
unfolding sat_to left_to opened_to posted_to held_to folded_to checked_to called_to wagered_to dead_to settled_to after_act new_round
puck_applied t (Sit x a) h r = h.puck
puck_applied t (Leave x) h r = h.puck
puck_applied t (Hand p) h r = seat_within t.sheet p r
puck_applied t (Hole x a b) h r = h.puck
puck_applied t (Fold x) h r = h.puck
puck_applied t (Check x) h r = h.puck
puck_applied t (Call x) h r = h.puck
puck_applied t (Wager x a) h r = h.puck
puck_applied t (Board k) h r = rw (board_leaves (λ u. u.play.puck) t k refl refl) h.puck
puck_applied t (Dead x) h r = h.puck
puck_applied t Settle h r = h.puck
puck_applied t Void h r = h.puck

standing_applied : (t : Table) (e : Entry) → Sound t → Standing t → in_kind t.sheet e ≡ true → kind_code t e ≡ 0 → Standing (applied_to t e)
standing_applied t e w h r q =
    record {
      size = size_applied t e ∙ h.size;
      chairs = chairs_applied t e w h q;
      seated = record { few = rw (sheet_applied t e) h.seated.few; above = λ s l. above_applied t e w h r s (rw (sheet_applied t e) at l) };
      puck = rw (sheet_applied t e) (puck_applied t e h r);
      cleared = cleared_applied t e h q;
      turn = turn_applied t e w h r q;
    }

-- the count of entries taken is no part of it
counted : (t : Table) (n : ℕ) → Standing t → Standing (with_taken t n)
unfolding owes live_hands only_with_chips
counted t n h = record { size = h.size; chairs = h.chairs; seated = h.seated; puck = h.puck; cleared = h.cleared; turn = record { none = h.turn.none; some = h.turn.some } }

-- every entry, taken or refused, keeps it
pub standing_next : (t : Table) (n : ℕ) (e : Entry) → Sound t → Standing t → Standing (next_of t n e)
unfolding next_of
standing_next t n e w h =
    ⊎_elim
    (λ (q : eqb (code_of t n e) 0 ≡ true).
    let p = passed t n e (eqb-true (code_of t n e) 0 q) in
    let next = counted (applied_to t e) n (standing_applied t e w h p.kind p.moment) in
    rw q next)
    (λ (q : eqb (code_of t n e) 0 ≡ false). rw q h)
    (test (eqb (code_of t n e) 0))

-- a fresh table has it
none_at : (n s : ℕ) → chair_at (replicate n no_chair) s ≡ no_chair
none_at n zero = refl
none_at zero (suc k) = refl
none_at (suc n) (suc zero) = refl
none_at (suc n) (suc (suc k)) = none_at n (suc k)

all_none : (P : Chair → Type 0) → P no_chair → (n : ℕ) → All P (replicate n no_chair)
all_none P p zero = tt
all_none P p (suc n) = (p, all_none P p n)

pub cleared_fresh : (sheet : Sheet) → All Cleared (fresh_table sheet).chairs
cleared_fresh sheet = all_none Cleared refl 10

pub standing_fresh : (sheet : Sheet) → is_sheet sheet ≡ true → Standing (fresh_table sheet)
standing_fresh sheet h =
    record {
      size = refl;
      chairs = all_none ChairOk no_ok 10;
      seated = record { few = sheet_seats sheet h; above = λ s l. none_at 10 s };
      puck = omega arith;
      cleared = λ o. cleared_fresh sheet;
      turn = record {
        none = λ z x. not_live (fresh_table sheet) (chair_at (replicate 10 no_chair) x) (ap (λ (c : Chair). c.dealt.live) (none_at 10 x));
        some = λ z. absurd (z refl);
      };
    }

-- `take` keeps `Sound`
pub sound_taken : (t : Table) (n : ℕ) (e : Entry) → Sound t → code_of t n e ≡ 0 → Sound (with_taken (applied_to t e) n)
sound_taken t n e h q =
    let p = passed t n e q in
    let a = sound_applied t e h p.kind p.moment in
    let m = marks t e h p.kind in
    record {
      payable = record { chips = a.payable.chips; sheet = a.payable.sheet; puck = a.payable.puck };
      sittings = omega (arith, a.sittings, h.sittings, p.next);
      taken = p.range;
      mark = m.0;
      turn = m.1;
      numbered = numbered_applied t e h.numbered;
      standing = counted (applied_to t e) n (standing_applied t e h h.standing p.kind p.moment);
    }

-- `new_table` establishes it
pub sound_fresh : (sheet : Sheet) → is_sheet sheet ≡ true → Sound (fresh_table sheet)
sound_fresh sheet h =
    record {
      payable = record { chips = omega arith; sheet = h; puck = omega arith };
      sittings = omega arith;
      taken = omega arith;
      mark = omega arith;
      turn = omega arith;
      numbered = none_numbered 0 10;
      standing = standing_fresh sheet h;
    }
