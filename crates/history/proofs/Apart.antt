-- After every taken entry each card lies at one place at most, in a seat's hole or on the board (`lies_after`, kept by code 8); so at every table that is reached at most one
-- seat holds the royal flush that wins the pool (`royal_once`, No. 7). Assumes nothing.
use Prim.Native.Nat.{ℕ, zero, suc, ◌+◌, ◌-◌, ◌≤◌}
use native.Mathlib.Numerals.{add-one}
use mathlib.Core.Bool.{Bool, true, false, not, ◌||◌, true≢false}
use mathlib.Core.Path.{◌≡◌, refl, sym, ap, ◌∙◌, subst}
use mathlib.Core.List.{List, [], ◌∷◌, map}
use mathlib.Core.Logic.{⊎_elim}
use native.Mathlib.Omega.{arith}
use lib.Dec.{eqb, ltb, leb}
use lib.ListN.{set, length, take, length-set}
use lib.Seq.{take_all}
use borrow.Author.Tests.{eq-eqb, ne_eqb, eqb-true, eqb-false, not-false}
use Rattle.laws.specs.Tests.{pick, either, one}
use Rattle.laws.specs.Often.{count}
use Rattle.laws.proofs.Tests.{either_false, test}
use Rattle.laws.proofs.Often.{count_append}
use Rattle.paper.specs.Paper.{when, or_else, is_sheet}
use Rattle.paper.specs.declared.Sheet.{Sheet}
use Rattle.paper.specs.declared.Entry.{Entry}
use Rattle.paper.specs.declared.Entry.TheVariants.{Sit, Leave, Hand, Hole, Fold, Check, Call, Wager, Board, Dead, Settle, Void}
use Rattle.paper.proofs.Codes.{or_zero, when_zero}
use Rattle.paper.proofs.Sheets.{good_ranged}
use Rattle.chairs.specs.Chairs.{count_of, want_of, chair_at, put_at, no_hole, has_card, is_holding, is_full, hole_of, held_of, paid_of, acted_of, round_of, dealt_of, rounded_of, again_of, close_all}
use Rattle.chairs.specs.declared.Chair.{Chair}
use Rattle.chairs.specs.declared.Hole.{Hole as Record}
use Rattle.chairs.specs.Who.{Holding}
use Rattle.table.specs.State.{seat_of, with_taken, with_card}
use Rattle.table.specs.Betting.{live_hands, nobody_owes, after_act, is_full_lift, folded_to, checked_to, called_to, wagered_to, dead_to, new_round}
use Rattle.table.specs.Sittings.{sat_to, left_to}
use Rattle.table.specs.Opening.{next_dealt_in, opened_to, posted_to}
use Rattle.table.specs.Dealing.{in_this_hand, hole_code, board_code, held_to, boarded_to}
use Rattle.table.specs.Settle.{settled_to, payout_now}
use Rattle.table.specs.Take.{kind_code, code_of, applied_to, next_of}
use Rattle.table.specs.declared.table.Table.{Table}
use Rattle.table.proofs.Sounds.{passed}
use Rattle.royal.specs.Royal.{royal_seats}
use Rattle.royal.specs.Apart.{held_times, Once}
use Rattle.royal.proofs.Once.{royal_one}
use Rattle.history.specs.History.{run, AllTaken}
use Rattle.history.proofs.Shown.{Held, held_after, cards_after, cards-more, hole_room}

-- ---- how often a card was entered, chair by chair
module _ (k : ℕ) where
  put_times : (cs : List Chair) (x : ℕ) (d : Chair) (n : ℕ) → count k (hole_of d) ≤ count k (hole_of (chair_at cs x)) + n → held_times k (put_at cs x d) ≤ held_times k cs + n
  unfolding held_times
  put_times cs zero d n h = omega arith
  put_times [] (suc x) d n h = omega arith
  put_times (c ∷ cs) (suc zero) d n h = omega (arith, h)
  put_times (c ∷ cs) (suc (suc x)) d n h = omega (arith, put_times cs (suc x) d n h)

  -- another chair with the same cards
  same_times : (cs : List Chair) (x : ℕ) (d : Chair) → d.hole ≡ (chair_at cs x).hole → held_times k (put_at cs x d) ≤ held_times k cs
  same_times cs x d e =
      let same : count k (hole_of d) ≡ count k (hole_of (chair_at cs x)) = ap (λ (r : Record). count k (take r.count r.cards)) e in
      omega (arith, put_times cs x d 0 (omega (arith, same)))

  map_times : (f : Chair → Chair) → ((c : Chair) → (f c).hole ≡ c.hole) → (cs : List Chair) → held_times k (map f cs) ≡ held_times k cs
  unfolding held_times
  map_times f e [] = refl
  map_times f e (c ∷ cs) = omega (arith, ap (λ (r : Record). count k (take r.count r.cards)) (e c), map_times f e cs)

  none_times : (f : Chair → Chair) → ((c : Chair) → (f c).hole ≡ no_hole) → (cs : List Chair) → held_times k (map f cs) ≡ 0
  unfolding held_times
  none_times f e [] = refl
  none_times f e (c ∷ cs) = omega (arith, ap (λ (r : Record). count k (take r.count r.cards)) (e c), none_times f e cs)

  close_times : (cs : List Chair) (ps : List ℕ) → held_times k (close_all cs ps) ≡ 0
  unfolding held_times
  close_times [] ps = refl
  close_times (c ∷ cs) [] = omega (arith, close_times cs [])
  close_times (c ∷ cs) (p ∷ ps) = omega (arith, close_times cs ps)

  -- ---- code 8: a card that is not in this hand
  neither : (a b : Bool) → (a || b) ≡ false → (a ≡ false) × (b ≡ false)
  neither true b e = absurd (true≢false e)
  neither false b e = (refl, e)

  not_there : (l : List ℕ) → has_card k l ≡ false → count k l ≡ 0
  not_there [] e = refl
  not_there (x ∷ l) e =
      let b = neither (eqb x k) (has_card k l) e in
      omega (arith, ap one (ne_eqb k x (λ z. eqb-false x k b.0 (sym z))), not_there l b.1)

  nobody_has : (cs : List Chair) → count_of (is_holding k) cs ≡ 0 → held_times k cs ≡ 0
  unfolding held_times
  nobody_has [] e = refl
  nobody_has (c ∷ cs) e =
      ⊎_elim
      (λ (p : is_holding k c ≡ true). absurd (omega (arith, ap one p, e)))
      (λ (p : is_holding k c ≡ false). omega (arith, not_there (hole_of c) p, nobody_has cs (omega (arith, ap one p, e))))
      (test (is_holding k c))

  -- one card more on the board
  lies_more : (l : List ℕ) (n v : ℕ) → count k (take (suc n) (set l n v)) ≤ count k (take n l) + one (eqb k v)
  lies_more [] n v = omega arith
  lies_more (x ∷ l) zero v = omega arith
  lies_more (x ∷ l) (suc n) v = omega (arith, lies_more l n v)

abbrev lying : Table → List ℕ
lying t = take t.board.count t.board.cards

not_in : (t : Table) (k : ℕ) → in_this_hand t k ≡ false → (held_times k t.chairs ≡ 0) × (count k (lying t) ≡ 0)
unfolding in_this_hand
not_in t k e =
    let n = count_of (want_of (Holding k)) t.chairs in
    let b = either_false (has_card k (lying t)) (not (eqb n 0)) e in
    (nobody_has k t.chairs (eqb-true n 0 (not-false (eqb n 0) b.1)), not_there k (lying t) b.0)

-- ---- every kind of entry
pub record Lies (t : Table) : Type 0 where
  pub size : length t.board.cards ≡ 5
  pub once : Once t.chairs (lying t)

-- the board stays, and no card is entered more often
stays : (t : Table) (cs : List Chair) → Lies t → ((k : ℕ) → held_times k cs ≤ held_times k t.chairs) → Once cs (lying t)
stays t cs h f = λ k. omega (arith, f k, h.once k)

hole_free : (t : Table) (x a b : ℕ) → hole_code t x a b ≡ 0 → (eqb a b ≡ false) × (in_this_hand t a ≡ false) × (in_this_hand t b ≡ false)
unfolding hole_code
hole_free t x a b h =
    let out = either (not (seat_of t x).dealt.live) (is_full t.sheet.game (seat_of t x)) in
    let twice = either (eqb a b) (either (in_this_hand t a) (in_this_hand t b)) in
    let e = when_zero twice 7 (or_zero (when out 5) (when twice 8) (or_zero (when (not t.play.opened) 4) (or_else (when out 5) (when twice 8)) h).1).1 in
    let p = either_false (eqb a b) (either (in_this_hand t a) (in_this_hand t b)) e in
    let q = either_false (in_this_hand t a) (in_this_hand t b) p.1 in
    (p.0, q.0, q.1)

board_free : (t : Table) (k : ℕ) → board_code t k ≡ 0 → in_this_hand t k ≡ false
unfolding board_code
board_free t k h =
    let out = either (not t.play.opened) (either (not (nobody_owes t)) (either (ltb (live_hands t) 2) (leb 5 t.board.count))) in
    when_zero (in_this_hand t k) 7 (or_zero (when out 4) (when (in_this_hand t k) 8) h).1

lies_board : (t : Table) (v : ℕ) → board_code t v ≡ 0 → Lies t → Lies (boarded_to t v)
unfolding boarded_to new_round
lies_board t v q h = go (leb 3 (t.board.count + 1))
  where
    size : length (set t.board.cards t.board.count v) ≡ 5
    size = length-set t.board.cards t.board.count v ∙ h.size

    once : (k : ℕ) → held_times k t.chairs + count k (take (t.board.count + 1) (set t.board.cards t.board.count v)) ≤ 1
    once k =
        let n = t.board.count in
        let l = t.board.cards in
        let one_more = subst (λ (j : ℕ). count k (take j (set l n v)) ≤ count k (take n l) + one (eqb k v)) (sym (add-one n)) (lies_more k l n v) in
        let free = not_in t v (board_free t v q) in
        ⊎_elim
        (λ (p : eqb k v ≡ true).
        let e = eqb-true k v p in
        omega (arith, one_more, ap one p, ap (λ (z : ℕ). held_times z t.chairs) e, ap (λ (z : ℕ). count z (lying t)) e, free.0, free.1))
        (λ (p : eqb k v ≡ false). omega (arith, one_more, ap one p, h.once k))
        (test (eqb k v))

    go : (b : Bool) → Lies (pick b (new_round (with_card t v)) (with_card t v))
    go true = record { size = size; once = λ k. omega (arith, once k, map_times k rounded_of (λ c. refl) t.chairs) }
    go false = record { size = size; once = once }

lies_open : (t : Table) (p : ℕ) → Lies t → Lies (opened_to t p)
unfolding opened_to posted_to
lies_open t p h =
    let cs = map dealt_of t.chairs in
    let d1 = paid_of (chair_at cs p) t.sheet.small in
    let cs1 = put_at cs p d1 in
    let q = next_dealt_in t p in
    let d2 = paid_of (chair_at cs1 q) t.sheet.big in
    record {
      size = h.size;
      once = stays t (put_at cs1 q d2) h (λ k. omega (arith, none_times k dealt_of (λ c. refl) t.chairs, same_times k cs p d1 refl, same_times k cs1 q d2 refl));
    }

again_hole : (t : Table) (x : ℕ) (full : Bool) → (seat_of t x).hole ≡ (chair_at (map (again_of full) t.chairs) x).hole
again_hole t x full = go t.chairs x
  where
    go : (cs : List Chair) (x : ℕ) → (chair_at cs x).hole ≡ (chair_at (map (again_of full) cs) x).hole
    go cs zero = refl
    go [] (suc x) = refl
    go (c ∷ cs) (suc zero) = refl
    go (c ∷ cs) (suc (suc x)) = go cs (suc x)

lies_wager : (t : Table) (x a : ℕ) → Lies t → Lies (wagered_to t x a)
unfolding wagered_to after_act
lies_wager t x a h =
    let cs = map (again_of (is_full_lift t a)) t.chairs in
    let d = acted_of (paid_of (seat_of t x) (a - round_of (seat_of t x))) in
    record {
      size = h.size;
      once =
          stays t (put_at cs x d) h (λ k. omega (arith, map_times k (again_of (is_full_lift t a)) (λ c. refl) t.chairs, same_times k cs x d (again_hole t x (is_full_lift t a))));
    }

module _ (sheet : Sheet) (good : is_sheet sheet ≡ true) where
  lies_hole : (t : Table) (x a b : ℕ) → t.sheet ≡ sheet → Held sheet.game (seat_of t x).hole → hole_code t x a b ≡ 0 → Lies t → Lies (held_to t x a b)
  unfolding held_to
  lies_hole t x a b r o q h = record { size = h.size; once = once }
    where
      more : (k : ℕ) → count k (hole_of (held_of (seat_of t x) a b)) ≡ count k (hole_of (seat_of t x)) + (one (eqb k a) + (one (eqb k b) + 0))
      more k =
          let room : (seat_of t x).hole.count ≡ sheet.game → ⊥ = λ e. hole_room t x a b q (e ∙ ap (λ (s : Sheet). s.game) (sym r)) in
          ap (count k) (cards-more sheet.game (good_ranged sheet good).game (seat_of t x).hole o room a b) ∙ count_append k (hole_of (seat_of t x)) (a ∷ b ∷ [])

      once : (k : ℕ) → held_times k (put_at t.chairs x (held_of (seat_of t x) a b)) + count k (lying t) ≤ 1
      once k =
          let f = hole_free t x a b q in
          let fa = not_in t a f.1 in
          let fb = not_in t b f.2 in
          let put = put_times k t.chairs x (held_of (seat_of t x) a b) (one (eqb k a) + one (eqb k b)) (omega (arith, more k)) in
          ⊎_elim
          (λ (p : eqb k a ≡ true).
          let e = eqb-true k a p in
          let n = ap one (ne_eqb k b (λ z. eqb-false a b f.0 (sym e ∙ z))) in
          omega (arith, put, ap one p, n, ap (λ (z : ℕ). held_times z t.chairs) e, ap (λ (z : ℕ). count z (lying t)) e, fa.0, fa.1))
          (λ (p : eqb k a ≡ false).
          ⊎_elim
          (λ (w : eqb k b ≡ true).
          let e = eqb-true k b w in
          omega (arith, put, ap one p, ap one w, ap (λ (z : ℕ). held_times z t.chairs) e, ap (λ (z : ℕ). count z (lying t)) e, fb.0, fb.1))
          (λ (w : eqb k b ≡ false). omega (arith, put, ap one p, ap one w, h.once k))
          (test (eqb k b)))
          (test (eqb k a))

  keeps : (t : Table) (x : ℕ) → Lies t → (d : Chair) → d.hole ≡ (seat_of t x).hole → Once (put_at t.chairs x d) (lying t)
  keeps t x h d e = stays t (put_at t.chairs x d) h (λ k. same_times k t.chairs x d e)

  lies_applied : (t : Table) (e : Entry) → t.sheet ≡ sheet → ((x : ℕ) → Held sheet.game (seat_of t x).hole) → kind_code t e ≡ 0 → Lies t → Lies (applied_to t e)
  unfolding sat_to left_to folded_to checked_to called_to dead_to after_act settled_to
  lies_applied t (Sit x a) r o q h = record { size = h.size; once = keeps t x h _ refl }
  lies_applied t (Leave x) r o q h = record { size = h.size; once = keeps t x h _ refl }
  lies_applied t (Hand p) r o q h = lies_open t p h
  lies_applied t (Hole x a b) r o q h = lies_hole t x a b r (o x) q h
  lies_applied t (Fold x) r o q h = record { size = h.size; once = keeps t x h _ refl }
  lies_applied t (Check x) r o q h = record { size = h.size; once = keeps t x h _ refl }
  lies_applied t (Call x) r o q h = record { size = h.size; once = keeps t x h _ refl }
  lies_applied t (Wager x a) r o q h = lies_wager t x a h
  lies_applied t (Board k) r o q h = lies_board t k q h
  lies_applied t (Dead x) r o q h = record { size = h.size; once = keeps t x h _ refl }
  lies_applied t Settle r o q h = record { size = refl; once = λ k. omega (arith, close_times k t.chairs (payout_now t).paid) }
  lies_applied t Void r o q h = h

  pub lies_after : (es : List Entry) → AllTaken sheet es → Lies (run sheet es)
  unfolding run next_of held_times
  lies_after [] a = record { size = refl; once = λ k. omega arith }
  lies_after (e ∷ es) a =
      let t = run sheet es in
      let n = length es + 1 in
      let p = passed t n e a.0 in
      let c = lies_applied t e (cards_after sheet good es a.1).rules (held_after sheet good es a.1) p.moment (lies_after es a.1) in
      let next : Lies (with_taken (applied_to t e) n) = record { size = c.size; once = c.once } in
      rw (eq-eqb (code_of t n e) 0 a.0) next

  -- "at most one seat can hold it"
  pub royal_once : (es : List Entry) → AllTaken sheet es → (run sheet es).board.count ≡ 5 → royal_seats sheet.game (run sheet es).board (run sheet es).chairs ≤ 1
  royal_once es a five =
      let t = run sheet es in
      let h = lies_after es a in
      let all : lying t ≡ t.board.cards = take_all t.board.count t.board.cards (omega (arith, five, h.size)) in
      royal_one sheet.game t.board t.chairs h.size (λ k. omega (arith, h.once k, ap (count k) all))
