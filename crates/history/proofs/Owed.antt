-- At a table: who owes after an entry that is no wager, hand or board owed before, and the seat that folds, checks or calls no longer does; a seat that wagers
-- doesn't owe; a hand or a board card is taken only where nobody owes; where nobody owes the turn is 0. Assumes nothing.
use Prim.Native.Nat.{ℕ, zero, suc, ◌+◌, ◌-◌, ◌≤◌, ◌<◌}
use mathlib.Core.Bool.{true, false, not, true≢false, false≢true}
use mathlib.Core.Path.{◌≡◌, refl, sym, ap, ◌∙◌}
use mathlib.Core.List.{List, [], ◌∷◌, map}
use mathlib.Core.Logic.{⊎_elim}
use native.Mathlib.Omega.{arith}
use lib.Dec.{eqb, ltb, leb}
use lib.ListN.{length}
use borrow.Author.Tests.{eqb-true, eqb-false, not-false}
use Rattle.laws.specs.Tests.{either, one}
use Rattle.laws.proofs.Tests.{either_false, test}
use Rattle.laws.proofs.Sums.{le_or_lt, map_length}
use Rattle.paper.specs.Paper.{when, or_else}
use Rattle.paper.proofs.Codes.{or_zero, when_zero}
use Rattle.paper.specs.declared.Entry.{Entry}
use Rattle.paper.specs.declared.Entry.TheVariants.{Sit, Leave, Hand, Hole, Fold, Check, Call, Wager, Board, Dead, Settle, Void}
use Rattle.chairs.specs.Chairs.{chair_at, seats_from, round_of, folded_of, acted_of, paid_of, again_of, close_all}
use Rattle.chairs.specs.declared.Chair.{Chair}
use Rattle.chairs.specs.declared.Dealt.{Dealt}
use Rattle.chairs.proofs.Over.{all_at}
use Rattle.table.specs.State.{seat_of, with_taken}
use Rattle.table.specs.Betting.{live_hands, only_with_chips, owes, first_owing, nobody_owes, turn_code, check_code, call_code, wager_code, after_act, folded_to, checked_to, called_to, wagered_to, dead_to, is_full_lift, is_wager as allowed}
use Rattle.table.specs.Sittings.{sat_to, left_to}
use Rattle.table.specs.Dealing.{in_this_hand, board_code, held_to}
use Rattle.table.specs.Settle.{settled_to, payout_now}
use Rattle.table.specs.Standing.{Cleared, Standing}
use Rattle.table.specs.Take.{kind_code, applied_to}
use Rattle.table.specs.declared.table.Table.{Table}
use Rattle.table.proofs.ChairsOk.{ok_at, empty_dead}
use Rattle.table.proofs.Closing.{size_applied}
use Rattle.table.proofs.Codes.{turn_live, sit_empty, leave_dead, hand_closed}
use Rattle.table.proofs.InTurn.{not_live, nobody}
use Rattle.history.specs.Turns.{count_seats}
use Rattle.history.specs.Owing.{is_turn, is_opening, Quiet}
use Rattle.history.proofs.Kept.{put_in}
use Rattle.history.proofs.Raises.{put_live}
use Rattle.history.proofs.Under.{count_same, count_most, count_none, count_nobody, count_under, count_below, Under, under_dead, under_acted, under_checked, under_held, under_put, owes_under, acted_clear}

-- how many of n seats owe
abbrev pub owing_at : ℕ → Table → ℕ
owing_at n t = count_seats (λ s. owes t (seat_of t s)) (seats_from 0 n)

-- fold, check, call and wager are of the seat in turn
turn_is : (t : Table) (x : ℕ) → turn_code t x ≡ 0 → t.play.turn ≡ x
unfolding turn_code
turn_is t x h =
    let dead = when (not (seat_of t x).dealt.live) 5 in
    let other = not (eqb t.play.turn x) in
    eqb-true t.play.turn x (not-false (eqb t.play.turn x) (when_zero other 5 (or_zero dead (when other 6) (or_zero (when (nobody_owes t) 4) (or_else dead (when other 6)) h).1).1))

-- a live hand is at one of the table's seats
live_in : (t : Table) (x : ℕ) → Standing t → (seat_of t x).dealt.live ≡ true → (0 < x) × (x ≤ t.sheet.seats)
live_in t zero st l = absurd (false≢true l)
live_in t (suc k) st l =
    (omega arith, ⊎_elim (λ (a : suc k ≤ t.sheet.seats). a) (λ (a : t.sheet.seats < suc k). absurd (false≢true (sym (ap (λ (c : Chair). c.dealt.live) (st.seated.above (suc k) a)) ∙ l))) (le_or_lt (suc k) t.sheet.seats))

-- the seat in turn owes
turn_owed : (t : Table) (x : ℕ) → Standing t → turn_code t x ≡ 0 → owes t (seat_of t x) ≡ true
turn_owed t x st q =
    let e = turn_is t x q in
    let n : t.play.turn ≡ 0 → ⊥ = λ z. false≢true (sym (ap (λ (s : ℕ). (seat_of t s).dealt.live) (sym e ∙ z)) ∙ turn_live t x q) in
    sym (ap (λ (s : ℕ). owes t (seat_of t s)) e) ∙ st.turn.some n

-- after a settle nobody is live
close_dead : (cs : List Chair) (ps : List ℕ) (y : ℕ) → (chair_at (close_all cs ps) y).dealt.live ≡ false
close_dead cs ps zero = refl
close_dead [] ps (suc k) = refl
close_dead (c ∷ cs) [] (suc zero) = refl
close_dead (c ∷ cs) (p ∷ ps) (suc zero) = refl
close_dead (c ∷ cs) [] (suc (suc k)) = close_dead cs [] (suc k)
close_dead (c ∷ cs) (p ∷ ps) (suc (suc k)) = close_dead cs ps (suc k)

module _ (t : Table) (st : Standing t) where
  eased : (e : Entry) → ((y : ℕ) → Under (seat_of t y) (seat_of (applied_to t e) y)) → (applied_to t e).play.mark ≡ t.play.mark → (y : ℕ)
      → owes (applied_to t e) (seat_of (applied_to t e) y) ≡ true → owes t (seat_of t y) ≡ true
  eased e h m = owes_under t (applied_to t e) (record { chairs = h; mark = m; before = st.size; after = size_applied t e ∙ st.size })

  -- who owes after a quiet entry owed before
  owed_before : (e : Entry) → kind_code t e ≡ 0 → Quiet e → (y : ℕ) → owes (applied_to t e) (seat_of (applied_to t e) y) ≡ true → owes t (seat_of t y) ≡ true
  unfolding sat_to left_to held_to folded_to checked_to called_to after_act dead_to settled_to
  owed_before (Sit x a) q k = eased (Sit x a) (under_put t.chairs x _ (under_dead (seat_of t x) _ (empty_dead (seat_of t x) (ok_at t.chairs x st.chairs) (sit_empty t x a q)))) refl
  owed_before (Leave x) q k = eased (Leave x) (under_put t.chairs x _ (under_dead (seat_of t x) _ (leave_dead t x q))) refl
  owed_before (Hand x) q k = absurd (true≢false k.opening)
  owed_before (Hole x a b) q k = eased (Hole x a b) (under_put t.chairs x _ (under_held (seat_of t x) a b)) refl
  owed_before (Fold x) q k = eased (Fold x) (under_put t.chairs x _ (under_dead (seat_of t x) (folded_of (seat_of t x)) refl)) refl
  owed_before (Check x) q k = eased (Check x) (under_put t.chairs x _ (under_checked (seat_of t x))) refl
  owed_before (Call x) q k = eased (Call x) (under_put t.chairs x _ (under_acted (seat_of t x) (t.play.mark - round_of (seat_of t x)))) refl
  owed_before (Wager x a) q k = absurd (true≢false k.wager)
  owed_before (Board c) q k = absurd (true≢false k.opening)
  owed_before (Dead x) q k = eased (Dead x) (under_put t.chairs x _ (under_dead (seat_of t x) (folded_of (seat_of t x)) refl)) refl
  owed_before Settle q k = λ y o. absurd (true≢false (sym o ∙ not_live (settled_to t) (seat_of (settled_to t) y) (close_dead t.chairs (payout_now t).paid y)))
  owed_before Void q k = absurd (omega arith)

  same_owe : (e : Entry) → kind_code t e ≡ 0 → Quiet e → owing_at t.sheet.seats (applied_to t e) ≤ owing_at t.sheet.seats t
  same_owe e q k = count_under (λ s. owes t (seat_of t s)) (λ s. owes (applied_to t e) (seat_of (applied_to t e) s)) (owed_before e q k) (seats_from 0 t.sheet.seats)

  -- seat x made a turn entry, and does not owe then
  fewer_owe : (e : Entry) (x : ℕ) → kind_code t e ≡ 0 → Quiet e → turn_code t x ≡ 0 → owes (applied_to t e) (seat_of (applied_to t e) x) ≡ false
      → owing_at t.sheet.seats (applied_to t e) + 1 ≤ owing_at t.sheet.seats t
  fewer_owe e x q k w f =
      let r = live_in t x st (turn_live t x w) in
      count_below (λ s. owes t (seat_of t s)) (λ s. owes (applied_to t e) (seat_of (applied_to t e) s)) (owed_before e q k) x (turn_owed t x st w) f 0 t.sheet.seats r.0 (omega (arith, r.1))

  check_turn : (x : ℕ) → check_code t x ≡ 0 → turn_code t x ≡ 0
  unfolding check_code
  check_turn x h = (or_zero (turn_code t x) (when (not (eqb (round_of (seat_of t x)) t.play.mark)) 7) h).0

  call_turn : (x : ℕ) → call_code t x ≡ 0 → turn_code t x ≡ 0
  unfolding call_code
  call_turn x h = (or_zero (turn_code t x) (when (not (ltb (round_of (seat_of t x)) t.play.mark)) 7) h).0

  wager_turn : (x a : ℕ) → wager_code t x a ≡ 0 → turn_code t x ≡ 0
  unfolding wager_code
  wager_turn x a h = (or_zero (turn_code t x) (when (not (allowed t (seat_of t x) a)) 7) h).0

  fold_clears : (x : ℕ) → turn_code t x ≡ 0 → owes (folded_to t x) (seat_of (folded_to t x) x) ≡ false
  unfolding folded_to after_act
  fold_clears x q = not_live (folded_to t x) (seat_of (folded_to t x) x) (ap (λ (c : Chair). c.dealt.live) (put_live t.chairs x (folded_of (seat_of t x)) (turn_live t x q)))

  check_clears : (x : ℕ) → turn_code t x ≡ 0 → owes (checked_to t x) (seat_of (checked_to t x) x) ≡ false
  unfolding checked_to after_act
  check_clears x q = acted_clear (checked_to t x) (seat_of (checked_to t x) x) (ap (λ (c : Chair). c.dealt.acted) (put_live t.chairs x (acted_of (seat_of t x)) (turn_live t x q)))

  call_clears : (x : ℕ) → turn_code t x ≡ 0 → owes (called_to t x) (seat_of (called_to t x) x) ≡ false
  unfolding called_to after_act
  call_clears x q =
      acted_clear (called_to t x) (seat_of (called_to t x) x) (ap (λ (c : Chair). c.dealt.acted) (put_live t.chairs x (acted_of (paid_of (seat_of t x) (t.play.mark - round_of (seat_of t x)))) (turn_live t x q)))

  wager_clears : (x a : ℕ) → turn_code t x ≡ 0 → owes (wagered_to t x a) (seat_of (wagered_to t x a) x) ≡ false
  unfolding wagered_to after_act
  wager_clears x a q =
      let r = live_in t x st (turn_live t x q) in
      let cs = map (again_of (is_full_lift t a)) t.chairs in
      let d = acted_of (paid_of (seat_of t x) (a - round_of (seat_of t x))) in
      let size : length cs ≡ 10 = map_length (again_of (is_full_lift t a)) t.chairs ∙ st.size in
      acted_clear (wagered_to t x a) (seat_of (wagered_to t x a) x) (ap (λ (c : Chair). c.dealt.acted) (put_in cs x d r.0 (omega (arith, r.1, st.seated.few))))

  -- what one quiet entry does to the count
  pub falls_at : (e : Entry) → kind_code t e ≡ 0 → Quiet e → owing_at t.sheet.seats (applied_to t e) + one (is_turn e) ≤ owing_at t.sheet.seats t
  falls_at (Sit x a) q k = omega (arith, same_owe (Sit x a) q k)
  falls_at (Leave x) q k = omega (arith, same_owe (Leave x) q k)
  falls_at (Hand x) q k = absurd (true≢false k.opening)
  falls_at (Hole x a b) q k = omega (arith, same_owe (Hole x a b) q k)
  falls_at (Fold x) q k = fewer_owe (Fold x) x q k q (fold_clears x q)
  falls_at (Check x) q k = fewer_owe (Check x) x q k (check_turn x q) (check_clears x (check_turn x q))
  falls_at (Call x) q k = fewer_owe (Call x) x q k (call_turn x q) (call_clears x (call_turn x q))
  falls_at (Wager x a) q k = absurd (true≢false k.wager)
  falls_at (Board c) q k = absurd (true≢false k.opening)
  falls_at (Dead x) q k = omega (arith, same_owe (Dead x) q k)
  falls_at Settle q k = omega (arith, same_owe Settle q k)
  falls_at Void q k = absurd (omega arith)

  pub wagered_at : (x a : ℕ) → wager_code t x a ≡ 0 → owing_at t.sheet.seats (wagered_to t x a) + 1 ≤ t.sheet.seats
  wagered_at x a q =
      let w = wager_turn x a q in
      let r = live_in t x st (turn_live t x w) in
      omega (
        arith,
        count_below (λ s. true) (λ s. owes (wagered_to t x a) (seat_of (wagered_to t x a) s)) (λ s h. refl) x refl (wager_clears x a w) 0 t.sheet.seats r.0 (omega (arith, r.1)),
        count_most (λ s. true) 0 t.sheet.seats,
      )

  -- a hand or a board card is taken only where nobody owes
  board_nobody : (c : ℕ) → board_code t c ≡ 0 → (s : ℕ) → owes t (seat_of t s) ≡ false
  unfolding board_code
  board_nobody c h =
      let some = not (nobody_owes t) in
      let last = either (ltb (live_hands t) 2) (leb 5 t.board.count) in
      let moment = either (not t.play.opened) (either some last) in
      let p = either_false (not t.play.opened) (either some last) (when_zero moment 3 (or_zero (when moment 4) (when (in_this_hand t c) 8) h).0) in
      nobody t 0 st.seated.above (eqb-true (first_owing t 0) 0 (not-false (nobody_owes t) (either_false some last p.1).0))

  hand_nobody : (x : ℕ) → t.play.opened ≡ false → (s : ℕ) → owes t (seat_of t s) ≡ false
  hand_nobody x o s = not_live t (seat_of t s) (ap (λ (d : Dealt). d.live) (all_at Cleared t.chairs s refl (st.cleared o)))

  pub opening_nobody : (e : Entry) → kind_code t e ≡ 0 → is_opening e ≡ true → owing_at t.sheet.seats t ≡ 0
  opening_nobody (Sit x a) q o = absurd (false≢true o)
  opening_nobody (Leave x) q o = absurd (false≢true o)
  opening_nobody (Hand x) q o = count_none (λ s. owes t (seat_of t s)) (hand_nobody x (hand_closed t x q).0) (seats_from 0 t.sheet.seats)
  opening_nobody (Hole x a b) q o = absurd (false≢true o)
  opening_nobody (Fold x) q o = absurd (false≢true o)
  opening_nobody (Check x) q o = absurd (false≢true o)
  opening_nobody (Call x) q o = absurd (false≢true o)
  opening_nobody (Wager x a) q o = absurd (false≢true o)
  opening_nobody (Board c) q o = count_none (λ s. owes t (seat_of t s)) (board_nobody c q) (seats_from 0 t.sheet.seats)
  opening_nobody (Dead x) q o = absurd (false≢true o)
  opening_nobody Settle q o = absurd (false≢true o)
  opening_nobody Void q o = absurd (false≢true o)

  -- where no seat owes the turn is 0
  pub no_turn : owing_at t.sheet.seats t ≡ 0 → t.play.turn ≡ 0
  unfolding owes
  no_turn z = ⊎_elim (λ (e : eqb t.play.turn 0 ≡ true). eqb-true t.play.turn 0 e) (λ (e : eqb t.play.turn 0 ≡ false). absurd (someone (eqb-false t.play.turn 0 e))) (test (eqb t.play.turn 0))
    where
      someone : (t.play.turn ≡ 0 → ⊥) → ⊥
      someone n =
          let o = st.turn.some n in
          let x = t.play.turn in
          let l : (seat_of t x).dealt.live ≡ true = ⊎_elim (λ h. h) (λ h. absurd (true≢false (sym o ∙ not_live t (seat_of t x) h))) (test (seat_of t x).dealt.live) in
          let r = live_in t x st l in
          true≢false (sym o ∙ count_nobody (λ s. owes t (seat_of t s)) 0 t.sheet.seats z x r.0 (omega (arith, r.1)))

pub taken_aside : (n k : ℕ) (t : Table) → owing_at n (with_taken t k) ≡ owing_at n t
unfolding owes live_hands only_with_chips
taken_aside n k t = count_same _ _ (λ s. refl) (seats_from 0 n)
