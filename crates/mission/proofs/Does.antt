-- Demand 2, second half: every entry that is taken does what document 01 says of its kind, and nothing else moves. At every table that `take` can hold.
-- Assumes nothing.
use Prim.Native.Nat.{ℕ, suc, ◌+◌, ◌-◌, ◌≤◌, ◌<◌, min}
use mathlib.Core.Bool.{Bool, true, not, false≢true}
use mathlib.Core.Path.{◌≡◌, refl, sym, ap, ◌∙◌, subst}
use mathlib.Core.List.{[], ◌∷◌, map}
use mathlib.Core.Logic.{⊎_elim}
use native.Mathlib.Omega.{arith}
use lib.Dec.{eqb, ltb, leb}
use lib.ListN.{length, get_or, take}
use borrow.Author.Tests.{eq-eqb, ne_eqb, ltb-true, leb-true, leb-false, le-leb, lt-leb}
use Rattle.laws.specs.Tests.{both, pick}
use Rattle.laws.proofs.Tests.{both_true}
use Rattle.paper.specs.Paper.{is_seat, between, in_kind}
use Rattle.paper.specs.declared.Entry.{Entry}
use Rattle.paper.specs.declared.Entry.TheVariants.{Sit, Leave, Hand, Hole, Fold, Check, Call, Wager, Board, Dead, Settle, Void}
use Rattle.paper.proofs.Codes.{between_in}
use Rattle.pots.proofs.Contest.{le_or_lt}
use Rattle.chairs.specs.Chairs.{chair_at, put_at, no_chair, no_dealt, no_hole, round_of, is_live_with_chips, seated_of, hole_with, held_of, folded_of, acted_of, paid_of, again_of, rounded_of, closed_of, close_all}
use Rattle.chairs.specs.declared.Chair.{Chair}
use Rattle.chairs.specs.declared.Hole.{Hole as Record}
use Rattle.chairs.proofs.Clockwise.{put_other}
use Rattle.chairs.proofs.Over.{map_at}
use Rattle.table.specs.State.{seat_of, with_taken, with_chair, with_card}
use Rattle.table.specs.Betting.{live_hands, only_with_chips, owes, first_owing, nobody_owes, after_act, is_full_lift, folded_to, checked_to, called_to, wagered_to, turn_after, dead_to, new_round}
use Rattle.table.specs.Sittings.{sat_to, left_to}
use Rattle.table.specs.Dealing.{held_to, boarded_to}
use Rattle.table.specs.Settle.{payout_now, settled_to}
use Rattle.table.specs.Take.{kind_code, code_of, applied_to, next_of}
use Rattle.table.specs.Standing.{Standing}
use Rattle.table.specs.declared.table.Table.{Table}
use Rattle.table.proofs.ChairsOk.{ok_at}
use Rattle.table.proofs.Codes.{turn_live, check_live, call_live, wager_live, wager_fits, dead_live}
use Rattle.table.proofs.Sounds.{passed}
use Rattle.history.proofs.AsNoted.{hole_live, leave_some}
use Rattle.history.proofs.Kept.{put_in, put_seat}
use Rattle.history.proofs.Paying.{close_at, close_past}
use Rattle.history.proofs.Raises.{put_live}
use Rattle.history.proofs.Turns.{next_taken}
use Rattle.mission.proofs.Taken.{taken_allowed}
use Rattle.mission.proofs.DoesHand.{does_hand}
use Rattle.mission.specs.Does.{Still, Puts, DoesSit, DoesLeave, DoesHole, GivenUp, DoesFold, DoesCheck, DoesCall, Again, DoesWager, DoesDead, DoesBoard, DoesSettle, Does}

-- the table after the entry, counted
abbrev done : Table → ℕ → Entry → Table
done t n e = with_taken (applied_to t e) n

-- ---- sit, leave, hole
does_sit : (t : Table) (n x a : ℕ) → Standing t → in_kind t.sheet (Sit x a) ≡ true → DoesSit t x a (done t n (Sit x a))
unfolding sat_to is_seat
does_sit t n x a st r =
    let b = between_in 1 t.sheet.seats x (both_true (between 1 t.sheet.seats x) (between 1 1000000 a) r).0 in
    let d = seated_of (seat_of t x) (t.sittings + 1) a in
    let at = put_in t.chairs x d (omega (arith, b.0)) (omega (arith, b.1, st.seated.few, st.size)) in
    record {
      sitting = ap (λ (c : Chair). c.sitting) at;
      stack = ap (λ (c : Chair). c.stack) at;
      dealt = ap (λ (c : Chair). c.dealt) at;
      hole = ap (λ (c : Chair). c.hole) at;
      count = refl;
      others = λ y q. put_other t.chairs x y d q;
      sheet = refl;
      play = refl;
      board = refl;
    }

does_leave : (t : Table) (n x : ℕ) → ((seat_of t x).sitting ≡ 0 → ⊥) → DoesLeave t x (done t n (Leave x))
unfolding left_to
does_leave t n x some =
    let d = seated_of (seat_of t x) 0 0 in
    let at = put_seat t.chairs x d (omega (arith, some)) in
    record {
      sitting = ap (λ (c : Chair). c.sitting) at;
      stack = ap (λ (c : Chair). c.stack) at;
      dealt = ap (λ (c : Chair). c.dealt) at;
      hole = ap (λ (c : Chair). c.hole) at;
      others = λ y q. put_other t.chairs x y d q;
      quiet = record { rest = record { sheet = refl; sittings = refl; opened = refl; puck = refl }; board = refl; mark = refl; lift = refl };
      turn = refl;
    }

-- ---- a live seat acts
module _ (t : Table) (n x : ℕ) (st : Standing t) (l : (seat_of t x).dealt.live ≡ true) where
  abbrev c : Chair
  c = seat_of t x

  at_live : (d : Chair) → chair_at (put_at t.chairs x d) x ≡ d
  at_live d = put_live t.chairs x d l

  does_hole : (a b : ℕ) → DoesHole t x a b (done t n (Hole x a b))
  unfolding held_to
  does_hole a b =
      let at = at_live (held_of c a b) in
      record {
        first = λ e. let r = ap (λ (c : Chair). c.hole) at ∙ is-first e in (ap (λ (h : Record). h.count) r, ap (λ (h : Record). take h.count h.cards) r);
        second = λ e. let r = ap (λ (c : Chair). c.hole) at ∙ is-second e in (ap (λ (h : Record). h.count) r, ap (λ (h : Record). take h.count h.cards) r);
        sitting = ap (λ (c : Chair). c.sitting) at;
        stack = ap (λ (c : Chair). c.stack) at;
        dealt = ap (λ (c : Chair). c.dealt) at;
        others = λ y q. put_other t.chairs x y (held_of c a b) q;
        quiet = record { rest = record { sheet = refl; sittings = refl; opened = refl; puck = refl }; board = refl; mark = refl; lift = refl };
        turn = refl;
      }
    where
      one : Record
      one = record { count = 2; cards = a ∷ b ∷ 0 ∷ 0 ∷ [] }

      two : Record
      two = record { count = 4; cards = get_or c.hole.cards 0 0 ∷ get_or c.hole.cards 1 0 ∷ a ∷ b ∷ [] }

      is-first : c.hole.count ≡ 0 → hole_with c.hole a b ≡ one
      is-first e = ap (λ (z : Bool). pick z one two) (eq-eqb c.hole.count 0 e)

      is-second : (c.hole.count ≡ 0 → ⊥) → hole_with c.hole a b ≡ two
      is-second e = ap (λ (z : Bool). pick z one two) (ne_eqb c.hole.count 0 e)

  given_up : GivenUp c (chair_at (put_at t.chairs x (folded_of c)) x)
  given_up = subst (GivenUp c) (sym (at_live (folded_of c))) (record { sitting = refl; stack = refl; dealt = refl; total = refl; live = refl; hole = refl })

  does_fold : DoesFold t x (done t n (Fold x))
  unfolding folded_to after_act first_owing owes live_hands only_with_chips
  does_fold =
      record {
        hand = given_up;
        others = λ y q. put_other t.chairs x y (folded_of c) q;
        quiet = record { rest = record { sheet = refl; sittings = refl; opened = refl; puck = refl }; board = refl; mark = refl; lift = refl };
        turn = refl;
      }

  does_check : DoesCheck t x (done t n (Check x))
  unfolding checked_to after_act first_owing owes live_hands only_with_chips
  does_check =
      let at = at_live (acted_of c) in
      record {
        still = subst (Still c) (sym at) (record { sitting = refl; stack = refl; dealt = refl; total = refl; live = refl; hole = refl });
        acted = ap (λ (c : Chair). c.dealt.acted) at;
        others = λ y q. put_other t.chairs x y (acted_of c) q;
        quiet = record { rest = record { sheet = refl; sittings = refl; opened = refl; puck = refl }; board = refl; mark = refl; lift = refl };
        turn = refl;
      }

  -- what is put in
  puts_in : (m : ℕ) → Puts c (acted_of (paid_of c m)) (min m c.stack)
  puts_in m =
      record {
        sitting = refl;
        stack = rests c.stack m;
        dealt = refl;
        total = refl;
        round = later c.dealt.total c.dealt.start (min m c.stack) (ok_at t.chairs x st.chairs).start;
        live = refl;
        hole = refl;
      }
    where
      rests : (v m : ℕ) → v - min m v + min m v ≡ v
      rests v m = omega arith

      later : (a b v : ℕ) → b ≤ a → a + v - b ≡ a - b + v
      later a b v l = omega arith

  does_call : DoesCall t x (done t n (Call x))
  unfolding called_to after_act first_owing owes live_hands only_with_chips
  does_call =
      let m = t.play.mark - round_of c in
      let at = at_live (acted_of (paid_of c m)) in
      record {
        pays = subst (λ (d : Chair). Puts c d (min m c.stack)) (sym at) (puts_in m);
        acted = ap (λ (c : Chair). c.dealt.acted) at;
        others = λ y q. put_other t.chairs x y (acted_of (paid_of c m)) q;
        quiet = record { rest = record { sheet = refl; sittings = refl; opened = refl; puck = refl }; board = refl; mark = refl; lift = refl };
        turn = refl;
      }

  does_wager : (a : ℕ) → a - round_of c ≤ c.stack → DoesWager t x a (done t n (Wager x a))
  unfolding wagered_to after_act first_owing owes live_hands only_with_chips
  does_wager a w =
      let m = a - round_of c in
      let full = is_full_lift t a in
      let cs = map (again_of full) t.chairs in
      let d = acted_of (paid_of c m) in
      let there : (chair_at cs x).dealt.live ≡ true = ap (λ (c : Chair). c.dealt.live) (map_at (again_of full) t.chairs x refl) ∙ l in
      let at : chair_at (put_at cs x d) x ≡ d = put_live cs x d there in
      let exact : min m c.stack ≡ m = least m c.stack w in
      let p : Puts c d m = subst (Puts c d) exact (puts_in m) in
      record {
        pays = subst (λ (d : Chair). Puts c d m) (sym at) p;
        total = λ q. ap round_of at ∙ p.round ∙ up (round_of c) a q;
        acted = ap (λ (c : Chair). c.dealt.acted) at;
        full = full;
        rise = λ e. (leb-true t.play.lift (a - t.play.mark) e, ap (λ (b : Bool). pick b (a - t.play.mark) t.play.lift) e);
        short = λ e. (leb-false t.play.lift (a - t.play.mark) e, ap (λ (b : Bool). pick b (a - t.play.mark) t.play.lift) e);
        others = λ y q.
            subst (Again full (seat_of t y)) (sym (put_other cs x y d q ∙ map_at (again_of full) t.chairs y refl))
            (record { still = record { sitting = refl; stack = refl; dealt = refl; total = refl; live = refl; hole = refl }; acted = refl; right = refl });
        mark = refl;
        turn = refl;
        rest = record { sheet = refl; sittings = refl; opened = refl; puck = refl };
        board = refl;
      }
    where
      least : (m v : ℕ) → m ≤ v → min m v ≡ m
      least m v h = omega arith

      up : (r a : ℕ) → r ≤ a → r + (a - r) ≡ a
      up r a h = omega arith

  abbrev at_turn : Bool → ℕ
  at_turn b = pick b (first_owing (with_chair t x (folded_of c)) x) (pick (nobody_owes (with_chair t x (folded_of c))) 0 t.play.turn)

  does_dead : DoesDead t x (done t n (Dead x))
  unfolding dead_to turn_after first_owing owes live_hands only_with_chips
  does_dead =
      record {
        hand = given_up;
        others = λ y q. put_other t.chairs x y (folded_of c) q;
        quiet = record { rest = record { sheet = refl; sittings = refl; opened = refl; puck = refl }; board = refl; mark = refl; lift = refl };
        turn = λ e. ap at_turn (eq-eqb t.play.turn x e);
        keeps = λ q e. ap at_turn (ne_eqb t.play.turn x q) ∙ ap (λ (b : Bool). pick b 0 t.play.turn) e;
        ends = λ q e. ap at_turn (ne_eqb t.play.turn x q) ∙ ap (λ (b : Bool). pick b 0 t.play.turn) e;
      }

-- ---- a board card
does_board : (t : Table) (n k : ℕ) → DoesBoard t k (done t n (Board k))
unfolding boarded_to new_round first_owing owes live_hands only_with_chips
does_board t n k =
    ⊎_elim
    (λ (q : 3 ≤ t.board.count + 1). subst (λ (b : Bool). DoesBoard t k (with_taken (pick b (new_round (with_card t k)) (with_card t k)) n)) (sym (le-leb 3 (t.board.count + 1) q)) (fresh q))
    (λ (q : t.board.count + 1 < 3). subst (λ (b : Bool). DoesBoard t k (with_taken (pick b (new_round (with_card t k)) (with_card t k)) n)) (sym (lt-leb 3 (t.board.count + 1) q)) (same q))
    (le_or_lt 3 (t.board.count + 1))
  where
    none : (v : ℕ) → v - v ≡ 0
    none v = omega arith

    at : (y : ℕ) → chair_at (map rounded_of t.chairs) y ≡ rounded_of (seat_of t y)
    at y = map_at rounded_of t.chairs y refl

    fresh : 3 ≤ t.board.count + 1 → DoesBoard t k (with_taken (new_round (with_card t k)) n)
    fresh q =
        record {
          count = refl;
          cards = refl;
          new = λ p. record {
            still = λ y. subst (Still (seat_of t y)) (sym (at y)) (record { sitting = refl; stack = refl; dealt = refl; total = refl; live = refl; hole = refl });
            round = λ y. ap round_of (at y) ∙ none (seat_of t y).dealt.total;
            acted = λ y. ap (λ (c : Chair). c.dealt.acted) (at y);
            right = λ y. ap (λ (c : Chair). c.dealt.spent) (at y);
            mark = refl;
            lift = refl;
            turn = refl;
          };
          old = λ p. absurd (omega (arith, p, q));
          rest = record { sheet = refl; sittings = refl; opened = refl; puck = refl };
        }

    same : t.board.count + 1 < 3 → DoesBoard t k (with_taken (with_card t k) n)
    same q =
        record { count = refl; cards = refl; new = λ p. absurd (omega (arith, p, q)); old = λ p. record { chairs = refl; play = refl }; rest = record { sheet = refl; sittings = refl; opened = refl; puck = refl } }

-- ---- a settle
does_settle : (t : Table) (n : ℕ) → Standing t → DoesSettle t (done t n Settle)
unfolding settled_to
does_settle t n st =
    record {
      sitting = λ i. each i (λ c d. d.sitting ≡ c.sitting) (λ c v. refl) refl;
      stack = λ i l. ap (λ (c : Chair). c.stack) (close_at t.chairs (payout_now t).paid i (omega (arith, l, st.size)));
      dealt = λ i. each i (λ c d. d.dealt ≡ no_dealt) (λ c v. refl) refl;
      hole = λ i. each i (λ c d. d.hole ≡ no_hole) (λ c v. refl) refl;
      opened = refl;
      puck = refl;
      mark = refl;
      turn = refl;
      board = refl;
      sheet = refl;
      sittings = refl;
    }
  where
    each : (i : ℕ) (P : Chair → Chair → Type 0) → ((c : Chair) (v : ℕ) → P c (closed_of c v)) → P no_chair no_chair → P (chair_at t.chairs (suc i)) (chair_at (close_all t.chairs (payout_now t).paid) (suc i))
    each i P f z =
        ⊎_elim
        (λ (a : length t.chairs ≤ i).
        let q = close_past t.chairs (payout_now t).paid i a in
        subst (λ (d : Chair). P (chair_at t.chairs (suc i)) d) (sym q.0) (subst (λ (d : Chair). P d no_chair) (sym q.1) z))
        (λ (a : i < length t.chairs).
        subst (λ (d : Chair). P (chair_at t.chairs (suc i)) d) (sym (close_at t.chairs (payout_now t).paid i a)) (f (chair_at t.chairs (suc i)) (get_or (payout_now t).paid i 0)))
        (le_or_lt (length t.chairs) i)

-- ---- every kind
does_applied : (t : Table) (n : ℕ) (e : Entry) → Standing t → in_kind t.sheet e ≡ true → kind_code t e ≡ 0 → Does t e (done t n e)
does_applied t n (Sit x a) st r q = does_sit t n x a st r
does_applied t n (Leave x) st r q = does_leave t n x (leave_some t x q)
does_applied t n (Hand p) st r q = does_hand t n p st r q
does_applied t n (Hole x a b) st r q = does_hole t n x st (hole_live t x a b q) a b
does_applied t n (Fold x) st r q = does_fold t n x st (turn_live t x q)
does_applied t n (Check x) st r q = does_check t n x st (check_live t x q)
does_applied t n (Call x) st r q = does_call t n x st (call_live t x q)
does_applied t n (Wager x a) st r q = does_wager t n x st (wager_live t x a q) a (wager_fits t x a q)
does_applied t n (Board k) st r q = does_board t n k
does_applied t n (Dead x) st r q = does_dead t n x st (dead_live t x q)
does_applied t n Settle st r q = does_settle t n st
does_applied t n Void st r q = absurd (omega arith)

pub taken_does : (t : Table) (n : ℕ) (e : Entry) → Standing t → code_of t n e ≡ 0 → Does t e (next_of t n e)
taken_does t n e st c =
    let p = passed t n e c in
    subst (Does t e) (sym (next_taken t n e c)) (does_applied t n e st p.kind p.moment)

-- ---- "one that never moves a chip" breaks demand 2: a taken call moves a chip
owing_chips : (t : Table) (c : Chair) → owes t c ≡ true → 0 < c.stack
unfolding owes
owing_chips t c h =
    let two = leb 2 (live_hands t) in
    let unless = not (both (only_with_chips t) (eqb (round_of c) t.play.mark)) in
    let rest = both (not c.dealt.acted) unless in
    ltb-true 0 c.stack (both_true c.dealt.live (ltb 0 c.stack) (both_true (is_live_with_chips c) rest (both_true two (both (is_live_with_chips c) rest) h).1).0).1

pub call_pays : (t : Table) (n x : ℕ) → Standing t → code_of t n (Call x) ≡ 0
    → ((seat_of t x).dealt.total < (seat_of (next_of t n (Call x)) x).dealt.total) × ((seat_of (next_of t n (Call x)) x).stack < (seat_of t x).stack)
call_pays t n x st c =
    let p = (taken_does t n (Call x) st c).pays in
    let may = (taken_allowed t n (Call x) c).may in
    let here = may.act.turn in
    let some : (t.play.turn ≡ 0 → ⊥) = λ z. false≢true (subst (λ (s : ℕ). (seat_of t s).dealt.live ≡ true) (sym here ∙ z) may.act.live) in
    let chips : 0 < (seat_of t x).stack = owing_chips t (seat_of t x) (subst (λ (s : ℕ). owes t (seat_of t s) ≡ true) here (st.turn.some some)) in
    let m : 0 < min (t.play.mark - round_of (seat_of t x)) (seat_of t x).stack = least t.play.mark (round_of (seat_of t x)) (seat_of t x).stack may.below chips in
    (omega (arith, p.total, m), omega (arith, p.stack, m))
  where
    least : (a b v : ℕ) → b < a → 0 < v → 0 < min (a - b) v
    least a b v l k = omega arith
