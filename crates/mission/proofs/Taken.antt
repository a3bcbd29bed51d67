-- Demand 2: an entry is taken exactly when document 01 allows it. Assumes nothing.
use Prim.Native.Nat.{ℕ, zero, suc, ◌+◌, ◌-◌}
use mathlib.Core.Bool.{Bool, true, false, not, true≢false, false≢true}
use mathlib.Core.Path.{◌≡◌, refl, sym, ◌∙◌}
use mathlib.Core.Logic.{◌⊎◌, inl, inr, ⊎_elim}
use native.Mathlib.Omega.{arith}
use lib.Dec.{eqb, leb, ltb}
use borrow.Author.Tests.{leb-true, leb-false, le-leb, lt-leb, ltb-true, ltb-false, lt-ltb, le-ltb, eq-eqb, eqb-true, eqb-false, ne_eqb, not-true, not-false}
use Rattle.laws.specs.Tests.{both, either}
use Rattle.laws.proofs.Tests.{both_true, either_false, test}
use Rattle.paper.specs.Paper.{when, or_else, in_range}
use Rattle.paper.proofs.Codes.{or_zero, when_zero}
use Rattle.paper.specs.declared.Entry.{Entry}
use Rattle.paper.specs.declared.Entry.TheVariants.{Sit, Leave, Hand, Hole, Fold, Check, Call, Wager, Board, Dead, Settle, Void}
use Rattle.chairs.specs.Chairs.{is_full, count_of, want_of, round_of, chips_of}
use Rattle.chairs.specs.Who.{Chips, Bare}
use Rattle.table.specs.Betting.{live_hands, nobody_owes, may_raise, is_wager, turn_code, check_code, call_code, wager_code, dead_code}
use Rattle.table.specs.Dealing.{in_this_hand, hole_code, board_code}
use Rattle.table.specs.Opening.{next_dealt_in, is_puck, hand_code}
use Rattle.table.specs.Sittings.{sit_code, leave_code}
use Rattle.table.specs.State.{seat_of}
use Rattle.table.specs.Settle.{settle_code}
use Rattle.table.specs.Take.{kind_code, code_of}
use Rattle.table.specs.declared.table.Table.{Table}
use Rattle.mission.specs.Allowed.{MaySit, MayLeave, MayOpen, MayHole, MayAct, MayCheck, MayCall, MayWager, MayBoard, MayDead, MaySettle, May, Allowed}
use Rattle.mission.proofs.Someone.{someone, nobody, not_nobody}

-- ---- a code of 0, and its parts
zero_or : (a b : ℕ) → a ≡ 0 → b ≡ 0 → or_else a b ≡ 0
zero_or zero b p q = q
zero_or (suc a) b p q = absurd (omega arith)

zero_when : (b : Bool) (k : ℕ) → b ≡ false → when b k ≡ 0
zero_when true k h = absurd (true≢false h)
zero_when false k h = refl

passes : (b : Bool) (k : ℕ) → when (not b) (suc k) ≡ 0 → b ≡ true
passes b k h = not-false b (when_zero (not b) k h)

when_met : (b : Bool) (k : ℕ) → b ≡ true → when (not b) k ≡ 0
when_met true k h = refl
when_met false k h = absurd (false≢true h)

neither : (a b : Bool) → a ≡ false → b ≡ false → either a b ≡ false
neither true b p q = absurd (true≢false p)
neither false b p q = q

two : (a b : Bool) → a ≡ true → b ≡ true → both a b ≡ true
two true b p q = q
two false b p q = absurd (false≢true p)

one_of : (a b : Bool) → either a b ≡ true → (a ≡ true) ⊎ (b ≡ true)
one_of true b h = inl refl
one_of false b h = inr h

left_of : (a b : Bool) → a ≡ true → either a b ≡ true
left_of true b h = refl
left_of false b h = absurd (false≢true h)

right_of : (a b : Bool) → b ≡ true → either a b ≡ true
right_of true b h = refl
right_of false b h = h

off : (b : Bool) → b ≡ true → not b ≡ false
off true h = refl
off false h = absurd (false≢true h)

on : (b : Bool) → b ≡ false → not b ≡ true
on true h = absurd (true≢false h)
on false h = refl

-- ---- fold, check, call, wager

act_taken : (t : Table) (s : ℕ) → turn_code t s ≡ 0 → MayAct t s
unfolding turn_code
act_taken t s h =
    let live = (seat_of t s).dealt.live in
    let same = eqb t.play.turn s in
    let p = or_zero (when (nobody_owes t) 4) (or_else (when (not live) 5) (when (not same) 6)) h in
    let q = or_zero (when (not live) 5) (when (not same) 6) p.1 in
    record {
      owed = someone t (when_zero (nobody_owes t) 3 p.0);
      live = passes live 4 q.0;
      turn = eqb-true t.play.turn s (passes same 5 q.1);
    }

act_code : (t : Table) (s : ℕ) → MayAct t s → turn_code t s ≡ 0
unfolding turn_code
act_code t s m =
    zero_or (when (nobody_owes t) 4) _ (zero_when (nobody_owes t) 4 (not_nobody t m.owed))
    (zero_or _ _ (when_met (seat_of t s).dealt.live 5 m.live) (when_met (eqb t.play.turn s) 6 (eq-eqb t.play.turn s m.turn)))

check_taken : (t : Table) (s : ℕ) → check_code t s ≡ 0 → MayCheck t s
unfolding check_code
check_taken t s h =
    let level = eqb (round_of (seat_of t s)) t.play.mark in
    let p = or_zero (turn_code t s) (when (not level) 7) h in
    record { act = act_taken t s p.0; level = eqb-true (round_of (seat_of t s)) t.play.mark (passes level 6 p.1) }

check_code_law : (t : Table) (s : ℕ) → MayCheck t s → check_code t s ≡ 0
unfolding check_code
check_code_law t s m = zero_or (turn_code t s) _ (act_code t s m.act) (when_met (eqb (round_of (seat_of t s)) t.play.mark) 7 (eq-eqb (round_of (seat_of t s)) t.play.mark m.level))

call_taken : (t : Table) (s : ℕ) → call_code t s ≡ 0 → MayCall t s
unfolding call_code
call_taken t s h =
    let below = ltb (round_of (seat_of t s)) t.play.mark in
    let p = or_zero (turn_code t s) (when (not below) 7) h in
    record { act = act_taken t s p.0; below = ltb-true (round_of (seat_of t s)) t.play.mark (passes below 6 p.1) }

call_code_law : (t : Table) (s : ℕ) → MayCall t s → call_code t s ≡ 0
unfolding call_code
call_code_law t s m = zero_or (turn_code t s) _ (act_code t s m.act) (when_met (ltb (round_of (seat_of t s)) t.play.mark) 7 (lt-ltb (round_of (seat_of t s)) t.play.mark m.below))

wager_taken : (t : Table) (s a : ℕ) → wager_code t s a ≡ 0 → MayWager t s a
unfolding wager_code is_wager
wager_taken t s a h =
    let c = seat_of t s in
    let put = a - round_of c in
    let above = ltb t.play.mark a in
    let within = leb put c.stack in
    let whole = eqb put c.stack in
    let full = leb (t.play.mark + t.play.lift) a in
    let ok = both above (both within (either whole full)) in
    let p = or_zero (turn_code t s) (when (not (both (may_raise c) ok)) 7) h in
    let m = both_true (may_raise c) ok (passes (both (may_raise c) ok) 6 p.1) in
    let q = both_true above (both within (either whole full)) m.1 in
    let r = both_true within (either whole full) q.1 in
    record {
      act = act_taken t s p.0;
      right = not-true c.dealt.spent m.0;
      above = ltb-true t.play.mark a q.0;
      within = leb-true put c.stack r.0;
      enough = ⊎_elim (λ e. inr (eqb-true put c.stack e)) (λ e. inl (leb-true (t.play.mark + t.play.lift) a e)) (one_of whole full r.1);
    }

wager_code_law : (t : Table) (s a : ℕ) → MayWager t s a → wager_code t s a ≡ 0
unfolding wager_code is_wager
wager_code_law t s a m =
    let c = seat_of t s in
    let put = a - round_of c in
    let whole = eqb put c.stack in
    let full = leb (t.play.mark + t.play.lift) a in
    zero_or (turn_code t s) _ (act_code t s m.act)
    (when_met (both (may_raise c) (both (ltb t.play.mark a) (both (leb put c.stack) (either whole full)))) 7
    (two (may_raise c) _ (on c.dealt.spent m.right)
    (two (ltb t.play.mark a) _ (lt-ltb t.play.mark a m.above)
    (two (leb put c.stack) _ (le-leb put c.stack m.within)
    (⊎_elim (λ e. right_of whole full (le-leb (t.play.mark + t.play.lift) a e)) (λ e. left_of whole full (eq-eqb put c.stack e)) m.enough)))))

-- ---- sit, leave, hand, hole

sit_taken : (t : Table) (s a : ℕ) → sit_code t s a ≡ 0 → MaySit t s a
unfolding sit_code
sit_taken t s a h =
    let free = eqb (seat_of t s).sitting 0 in
    let many = ltb 100000000 (chips_of t.chairs + a) in
    let p = or_zero (when (not free) 5) (when many 9) h in
    record { empty = eqb-true (seat_of t s).sitting 0 (passes free 4 p.0); room = ltb-false 100000000 (chips_of t.chairs + a) (when_zero many 8 p.1) }

sit_code_law : (t : Table) (s a : ℕ) → MaySit t s a → sit_code t s a ≡ 0
unfolding sit_code
sit_code_law t s a m =
    zero_or _ _ (when_met (eqb (seat_of t s).sitting 0) 5 (eq-eqb (seat_of t s).sitting 0 m.empty))
    (zero_when (ltb 100000000 (chips_of t.chairs + a)) 9 (le-ltb 100000000 (chips_of t.chairs + a) m.room))

leave_taken : (t : Table) (s : ℕ) → leave_code t s ≡ 0 → MayLeave t s
unfolding leave_code
leave_taken t s h =
    let p = either_false (eqb (seat_of t s).sitting 0) (seat_of t s).dealt.live (when_zero (either (eqb (seat_of t s).sitting 0) (seat_of t s).dealt.live) 4 h) in
    record { occupied = eqb-false (seat_of t s).sitting 0 p.0; out = p.1 }

leave_code_law : (t : Table) (s : ℕ) → MayLeave t s → leave_code t s ≡ 0
unfolding leave_code
leave_code_law t s m =
    zero_when (either (eqb (seat_of t s).sitting 0) (seat_of t s).dealt.live) 5
    (neither (eqb (seat_of t s).sitting 0) (seat_of t s).dealt.live (ne_eqb (seat_of t s).sitting 0 m.occupied) m.out)

hand_taken : (t : Table) (s : ℕ) → hand_code t s ≡ 0 → MayOpen t s
unfolding hand_code is_puck
hand_taken t s h =
    let few = ltb (count_of (want_of Chips) t.chairs) 2 in
    let chips = ltb 0 (seat_of t s).stack in
    let first = eqb t.play.puck 0 in
    let next = eqb (next_dealt_in t t.play.puck) s in
    let p = or_zero (when (either t.play.opened few) 4) (when (not (both chips (either first next))) 5) h in
    let q = either_false t.play.opened few (when_zero (either t.play.opened few) 3 p.0) in
    let r = both_true chips (either first next) (passes (both chips (either first next)) 4 p.1) in
    record {
      none = q.0;
      two = ltb-false (count_of (want_of Chips) t.chairs) 2 q.1;
      dealt = ltb-true 0 (seat_of t s).stack r.0;
      next = ⊎_elim (λ e. inl (eqb-true t.play.puck 0 e)) (λ e. inr (eqb-true (next_dealt_in t t.play.puck) s e)) (one_of first next r.1);
    }

hand_code_law : (t : Table) (s : ℕ) → MayOpen t s → hand_code t s ≡ 0
unfolding hand_code is_puck
hand_code_law t s m =
    let few = ltb (count_of (want_of Chips) t.chairs) 2 in
    let chips = ltb 0 (seat_of t s).stack in
    let first = eqb t.play.puck 0 in
    let next = eqb (next_dealt_in t t.play.puck) s in
    zero_or _ _ (zero_when (either t.play.opened few) 4 (neither t.play.opened few m.none (le-ltb (count_of (want_of Chips) t.chairs) 2 m.two)))
    (when_met (both chips (either first next)) 5
    (two chips (either first next) (lt-ltb 0 (seat_of t s).stack m.dealt)
    (⊎_elim (λ e. left_of first next (eq-eqb t.play.puck 0 e)) (λ e. right_of first next (eq-eqb (next_dealt_in t t.play.puck) s e)) m.next)))

hole_taken : (t : Table) (s a b : ℕ) → hole_code t s a b ≡ 0 → MayHole t s a b
unfolding hole_code
hole_taken t s a b h =
    let live = (seat_of t s).dealt.live in
    let full = is_full t.sheet.game (seat_of t s) in
    let same = eqb a b in
    let old = either (in_this_hand t a) (in_this_hand t b) in
    let p = or_zero (when (not t.play.opened) 4) (or_else (when (either (not live) full) 5) (when (either same old) 8)) h in
    let q = or_zero (when (either (not live) full) 5) (when (either same old) 8) p.1 in
    let r = either_false (not live) full (when_zero (either (not live) full) 4 q.0) in
    let u = either_false same old (when_zero (either same old) 7 q.1) in
    let v = either_false (in_this_hand t a) (in_this_hand t b) u.1 in
    record {
      opened = passes t.play.opened 3 p.0;
      live = not-false live r.0;
      few = eqb-false (seat_of t s).hole.count t.sheet.game r.1;
      two = eqb-false a b u.0;
      first = v.0;
      second = v.1;
    }

hole_code_law : (t : Table) (s a b : ℕ) → MayHole t s a b → hole_code t s a b ≡ 0
unfolding hole_code
hole_code_law t s a b m =
    let live = (seat_of t s).dealt.live in
    let full = is_full t.sheet.game (seat_of t s) in
    zero_or _ _ (when_met t.play.opened 4 m.opened)
    (zero_or _ _ (zero_when (either (not live) full) 5 (neither (not live) full (off live m.live) (ne_eqb (seat_of t s).hole.count t.sheet.game m.few)))
    (zero_when (either (eqb a b) (either (in_this_hand t a) (in_this_hand t b))) 8 (neither (eqb a b) _ (ne_eqb a b m.two) (neither (in_this_hand t a) (in_this_hand t b) m.first m.second))))

-- ---- board, dead, settle

board_taken : (t : Table) (k : ℕ) → board_code t k ≡ 0 → MayBoard t k
unfolding board_code
board_taken t k h =
    let few = ltb (live_hands t) 2 in
    let full = leb 5 t.board.count in
    let late = either few full in
    let owed = either (not (nobody_owes t)) late in
    let p = or_zero (when (either (not t.play.opened) owed) 4) (when (in_this_hand t k) 8) h in
    let q = either_false (not t.play.opened) owed (when_zero (either (not t.play.opened) owed) 3 p.0) in
    let r = either_false (not (nobody_owes t)) late q.1 in
    let u = either_false few full r.1 in
    record {
      opened = not-false t.play.opened q.0;
      unowed = λ o. true≢false (sym (not-false (nobody_owes t) r.0) ∙ not_nobody t o);
      two = ltb-false (live_hands t) 2 u.0;
      under = leb-false 5 t.board.count u.1;
      fresh = when_zero (in_this_hand t k) 7 p.1;
    }

board_code_law : (t : Table) (k : ℕ) → MayBoard t k → board_code t k ≡ 0
unfolding board_code
board_code_law t k m =
    let few = ltb (live_hands t) 2 in
    let full = leb 5 t.board.count in
    zero_or _ _
    (zero_when (either (not t.play.opened) (either (not (nobody_owes t)) (either few full))) 4
    (neither (not t.play.opened) _ (off t.play.opened m.opened)
    (neither (not (nobody_owes t)) _ (off (nobody_owes t) (nobody t m.unowed))
    (neither few full (le-ltb (live_hands t) 2 m.two) (lt-leb 5 t.board.count m.under)))))
    (zero_when (in_this_hand t k) 8 m.fresh)

dead_taken : (t : Table) (s : ℕ) → dead_code t s ≡ 0 → MayDead t s
unfolding dead_code
dead_taken t s h =
    let few = ltb (live_hands t) 2 in
    let live = (seat_of t s).dealt.live in
    let p = or_zero (when (either (not t.play.opened) few) 4) (when (not live) 5) h in
    let q = either_false (not t.play.opened) few (when_zero (either (not t.play.opened) few) 3 p.0) in
    record { opened = not-false t.play.opened q.0; two = ltb-false (live_hands t) 2 q.1; live = passes live 4 p.1 }

dead_code_law : (t : Table) (s : ℕ) → MayDead t s → dead_code t s ≡ 0
unfolding dead_code
dead_code_law t s m =
    let few = ltb (live_hands t) 2 in
    zero_or _ _ (zero_when (either (not t.play.opened) few) 4 (neither (not t.play.opened) few (off t.play.opened m.opened) (le-ltb (live_hands t) 2 m.two)))
    (when_met (seat_of t s).dealt.live 5 m.live)

settle_taken : (t : Table) → settle_code t ≡ 0 → MaySettle t
unfolding settle_code
settle_taken t h =
    let sole = eqb (live_hands t) 1 in
    let five = eqb t.board.count 5 in
    let done = both (nobody_owes t) five in
    let many = leb 2 (live_hands t) in
    let bare = eqb (count_of (want_of (Bare t.sheet.game)) t.chairs) 0 in
    let now = both t.play.opened (either sole done) in
    let p = or_zero (when (not now) 4) (when (both many (not bare)) 10) h in
    let q = both_true t.play.opened (either sole done) (passes now 3 p.0) in
    record {
      opened = q.0;
      moment = ⊎_elim (λ e. inl (eqb-true (live_hands t) 1 e))
          (λ e. let r = both_true (nobody_owes t) five e in inr ((λ o. true≢false (sym r.0 ∙ not_nobody t o)), eqb-true t.board.count 5 r.1))
          (one_of sole done q.1);
      cards = λ l. ⊎_elim (λ e. eqb-true (count_of (want_of (Bare t.sheet.game)) t.chairs) 0 e)
          (λ e. absurd (true≢false (sym (two many (not bare) (le-leb 2 (live_hands t) l) (on bare e)) ∙ when_zero (both many (not bare)) 9 p.1)))
          (test bare);
    }

settle_code_law : (t : Table) → MaySettle t → settle_code t ≡ 0
unfolding settle_code
settle_code_law t m =
    let sole = eqb (live_hands t) 1 in
    let five = eqb t.board.count 5 in
    let done = both (nobody_owes t) five in
    let many = leb 2 (live_hands t) in
    let bare = eqb (count_of (want_of (Bare t.sheet.game)) t.chairs) 0 in
    zero_or _ _
    (when_met (both t.play.opened (either sole done)) 4
    (two t.play.opened (either sole done) m.opened
    (⊎_elim (λ e. left_of sole done (eq-eqb (live_hands t) 1 e)) (λ e. right_of sole done (two (nobody_owes t) five (nobody t e.0) (eq-eqb t.board.count 5 e.1))) m.moment)))
    (zero_when (both many (not bare)) 10
    (⊎_elim (λ e. go many (not bare) (off bare (eq-eqb (count_of (want_of (Bare t.sheet.game)) t.chairs) 0 (m.cards (leb-true 2 (live_hands t) e))))) (λ e. none many (not bare) e) (test many)))
  where
    go : (a b : Bool) → b ≡ false → both a b ≡ false
    go true b h = h
    go false b h = refl

    none : (a b : Bool) → a ≡ false → both a b ≡ false
    none true b h = absurd (true≢false h)
    none false b h = refl

-- ---- the whole

kind_may : (t : Table) (e : Entry) → kind_code t e ≡ 0 → May t e
kind_may t (Sit s a) h = sit_taken t s a h
kind_may t (Leave s) h = leave_taken t s h
kind_may t (Hand s) h = hand_taken t s h
kind_may t (Hole s a b) h = hole_taken t s a b h
kind_may t (Fold s) h = act_taken t s h
kind_may t (Check s) h = check_taken t s h
kind_may t (Call s) h = call_taken t s h
kind_may t (Wager s a) h = wager_taken t s a h
kind_may t (Board k) h = board_taken t k h
kind_may t (Dead s) h = dead_taken t s h
kind_may t Settle h = settle_taken t h
kind_may t Void h = absurd (omega arith)

may_kind : (t : Table) (e : Entry) → May t e → kind_code t e ≡ 0
may_kind t (Sit s a) m = sit_code_law t s a m
may_kind t (Leave s) m = leave_code_law t s m
may_kind t (Hand s) m = hand_code_law t s m
may_kind t (Hole s a b) m = hole_code_law t s a b m
may_kind t (Fold s) m = act_code t s m
may_kind t (Check s) m = check_code_law t s m
may_kind t (Call s) m = call_code_law t s m
may_kind t (Wager s a) m = wager_code_law t s a m
may_kind t (Board k) m = board_code_law t k m
may_kind t (Dead s) m = dead_code_law t s m
may_kind t Settle m = settle_code_law t m
may_kind t Void m = absurd m

pub taken_allowed : (t : Table) (n : ℕ) (e : Entry) → code_of t n e ≡ 0 → Allowed t n e
unfolding code_of
taken_allowed t n e h =
    let ok = in_range t.sheet n e in
    let same = eqb (t.taken + 1) n in
    let p = or_zero (when (not ok) 2) (or_else (when (not same) 3) (kind_code t e)) h in
    let q = or_zero (when (not same) 3) (kind_code t e) p.1 in
    record { ranges = passes ok 1 p.0; next = sym (eqb-true (t.taken + 1) n (passes same 2 q.0)); may = kind_may t e q.1 }

pub allowed_taken : (t : Table) (n : ℕ) (e : Entry) → Allowed t n e → code_of t n e ≡ 0
unfolding code_of
allowed_taken t n e a =
    zero_or _ _ (when_met (in_range t.sheet n e) 2 a.ranges)
    (zero_or _ _ (when_met (eqb (t.taken + 1) n) 3 (eq-eqb (t.taken + 1) n (sym a.next))) (may_kind t e a.may))
