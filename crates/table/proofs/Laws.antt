-- Laws of owing seats, of cards that are out and of what a code of 0 says, over tables. Assumes nothing.
use Prim.Native.Nat.{ℕ, zero, suc, ◌+◌, ◌<◌, ◌≤◌}
use mathlib.Core.Bool.{Bool, true, false, not}
use mathlib.Core.Path.{◌≡◌, refl, sym, ap, ◌∙◌}
use mathlib.Core.List.{List, [], ◌∷◌, ◌++◌, map}
use native.Mathlib.Omega.{arith}
use lib.ListN.{length, get_or, take}
use lib.Seq.{take_all}
use lib.Dec.{leb, ltb}
use borrow.Author.Tests.{le-leb, lt-leb, leb-false}
use Rattle.paper.proofs.Sheets.{good_ranged}
use Rattle.paper.specs.Paper.{when, is_game, is_sheet}
use Rattle.laws.specs.Tests.{either, pick}
use Rattle.paper.proofs.Codes.{or_zero, when_zero}
use Rattle.laws.proofs.Tests.{either_false}
use Rattle.paper.specs.declared.Sheet.{Sheet}
use Rattle.laws.specs.Lists.{sum_of}
use Rattle.pots.specs.declared.Commission.{Commission}
use Rattle.pots.specs.Hand.{fee_of_hand, drop_of_hand, due_of, paid_of, unclaimed_of}
use Rattle.pots.proofs.Hands.{none_lost, map_length, paid_and_unclaimed, at_most_sum}
use Rattle.cards.specs.Order.{ranking_of, best_among, best_of}
use Rattle.cards.specs.Omaha.{from_both, allowed}
use Rattle.cards.specs.declared.Hand.{Hand}
use Rattle.laws.proofs.Five.{five_list}
use Rattle.ladder.specs.Ladder.{kept_of}
use Rattle.ladder.proofs.Showdown.{kept_small}
use Rattle.table.specs.Settle.{Payable, totals_of, lives_of, here_of, is_shown, hand_score, score_of, scores_of, due_now, commission_of, payout_now}
use Rattle.table.specs.declared.table.Board.{Board}
use Rattle.table.specs.declared.table.Payout.{Payout}
use Rattle.chairs.specs.Chairs.{hole_of, first_of, chips_of, want_of, clockwise, column_of, no_chair, paid_of as pays_of}
use Rattle.chairs.proofs.Laws.{first_cong, chips_put, chips_paid}
use Rattle.chairs.specs.declared.Chair.{Chair}
use Rattle.chairs.specs.Who.{Owing}
use Rattle.table.specs.State.{seat_of}
use Rattle.table.specs.Betting.{live_hands, only_with_chips, owes, first_owing, nobody_owes}
use Rattle.table.specs.Opening.{posted_to}
use Rattle.table.specs.Dealing.{in_this_hand, board_code}
use Rattle.table.specs.declared.table.Table.{Table}
use Rattle.chairs.specs.What as what

first_false : (cs : List Chair) (ss : List ℕ) → first_of (λ c. false) cs ss ≡ 0
first_false cs [] = refl
first_false cs (s ∷ ss) = first_false cs ss

-- with fewer than two live hands nobody owes; with two or more, those that `Who.Owing` looks for
pub owing_few : (t : Table) (s : ℕ) → live_hands t < 2 → first_owing t s ≡ 0
unfolding first_owing owes
owing_few t s h = first_cong (owes t) (λ c. false) t.chairs none (clockwise t.sheet.seats s) ∙ first_false t.chairs (clockwise t.sheet.seats s)
  where
    none : (c : Chair) → owes t c ≡ false
    none c = rw (lt-leb 2 (live_hands t) h)

pub owing_many : (t : Table) (s : ℕ) → 2 ≤ live_hands t
    → first_owing t s ≡ first_of (want_of (Owing t.play.mark (only_with_chips t))) t.chairs (clockwise t.sheet.seats s)
unfolding first_owing owes
owing_many t s h = first_cong (owes t) (want_of (Owing t.play.mark (only_with_chips t))) t.chairs same (clockwise t.sheet.seats s)
  where
    same : (c : Chair) → owes t c ≡ want_of (Owing t.play.mark (only_with_chips t)) c
    same c = rw (le-leb 2 (live_hands t) h)

-- a blind makes no chips
pub chips_posted : (t : Table) (s a : ℕ) → chips_of (posted_to t s a).chairs ≤ chips_of t.chairs
unfolding posted_to
chips_posted t s a = omega (arith, chips_put t.chairs s (pays_of (seat_of t s) a), chips_paid (seat_of t s) a)

-- a board entry that is taken has room
pub board_room : (t : Table) (k : ℕ) → board_code t k ≡ 0 → t.board.count < 5
unfolding board_code
board_room t k h =
    let full = leb 5 t.board.count in
    let few = either (ltb (live_hands t) 2) full in
    let owed = either (not (nobody_owes t)) few in
    let e = when_zero (either (not t.play.opened) owed) 3 (or_zero (when (either (not t.play.opened) owed) 4) (when (in_this_hand t k) 8) h).0 in
    let e1 = (either_false (not t.play.opened) owed e).1 in
    let e2 = (either_false (not (nobody_owes t)) few e1).1 in
    leb-false 5 t.board.count (either_false (ltb (live_hands t) 2) full e2).1

-- the totals are at most all chips
pub totals_within : (cs : List Chair) → sum_of (map (column_of what.Total) cs) ≤ chips_of cs
unfolding sum_of
totals_within [] = omega arith
totals_within (c ∷ cs) = omega (arith, totals_within cs)

-- what is used of a good sheet: the bounds of its seats, big, rate and step, and its game
pub sheet_seats : (s : Sheet) → is_sheet s ≡ true → s.seats ≤ 10
sheet_seats s h = (good_ranged s h).seats.1

pub sheet_big : (s : Sheet) → is_sheet s ≡ true → s.big ≤ 10000
sheet_big s h = (good_ranged s h).big

pub sheet_rate : (s : Sheet) → is_sheet s ≡ true → s.rate ≤ 100
sheet_rate s h = (good_ranged s h).rate

pub sheet_step : (s : Sheet) → is_sheet s ≡ true → 1 ≤ s.step
sheet_step s h = (good_ranged s h).step.0

pub sheet_game : (s : Sheet) → is_sheet s ≡ true → is_game s.game ≡ true
sheet_game s h = (good_ranged s h).game

-- ---- what a settle pays
score_small : (deck game : ℕ) (b : Board) (c : Chair) → score_of deck game b c ≤ 100000000
unfolding score_of hand_score
score_small deck game b c = go (is_shown game c)
  where
    go : (s : Bool) → pick s (hand_score deck game (hole_of c) b.cards) 0 ≤ 100000000
    go true = omega (arith, kept_small deck (best_among (ranking_of deck) (allowed game (hole_of c) b.cards)))
    go false = omega arith

score_at : (deck game : ℕ) (b : Board) (cs : List Chair) (i : ℕ) → get_or (map (score_of deck game b) cs) i 0 ≤ 100000000
score_at deck game b [] i = omega arith
score_at deck game b (c ∷ cs) zero = score_small deck game b c
score_at deck game b (c ∷ cs) (suc i) = score_at deck game b cs i

pub scores_within : (deck game : ℕ) (b : Board) (cs : List Chair) (xs : List ℕ) → xs ≡ map (score_of deck game b) cs → (i : ℕ) → get_or xs i 0 ≤ 100000000
scores_within deck game b cs xs e i = rw e (score_at deck game b cs i)

-- the best of the seven cards, for two hole cards
pub seven_score : (deck n : ℕ) (d k : List ℕ) {h : Hand} → n ≡ 2 → length d ≡ 4 → length k ≡ 5
    → h ≡ best_of (ranking_of deck) (get_or d 0 0 ∷ get_or d 1 0 ∷ get_or k 0 0 ∷ get_or k 1 0 ∷ get_or k 2 0 ∷ get_or k 3 0 ∷ get_or k 4 0 ∷ []) → kept_of deck h ≡ hand_score deck 2 (take n d) k
unfolding hand_score allowed best_of
seven_score deck n d k e ld lk q =
    let l : ◌≡◌ {A = List ℕ} (get_or d 0 0 ∷ get_or d 1 0 ∷ get_or k 0 0 ∷ get_or k 1 0 ∷ get_or k 2 0 ∷ get_or k 3 0 ∷ get_or k 4 0 ∷ []) (take n d ++ k) =
    ap (λ (m : List ℕ). get_or d 0 0 ∷ get_or d 1 0 ∷ m) (sym (five_list 0 k lk)) ∙ ap (λ (m : List ℕ). m ++ k) (two d ld) ∙ ap (λ (i : ℕ). take i d ++ k) (sym e) in
    ap (kept_of deck) (q ∙ ap (best_of (ranking_of deck)) l)
  where
    two : (d : List ℕ) → length d ≡ 4 → get_or d 0 0 ∷ get_or d 1 0 ∷ [] ≡ take 2 d
    two [] e = absurd (omega arith)
    two (a ∷ []) e = absurd (omega arith)
    two (a ∷ b ∷ d) e = refl

-- the best of two and three, for four hole cards
pub both_score : (deck n : ℕ) (d k : List ℕ) {h : Hand} → n ≡ 4 → length d ≡ 4 → h ≡ best_among (ranking_of deck) (from_both 2 3 d k)
    → kept_of deck h ≡ hand_score deck 4 (take n d) k
unfolding hand_score allowed
both_score deck n d k e ld q = ap (kept_of deck) (q ∙ ap (λ (l : List ℕ). best_among (ranking_of deck) (from_both 2 3 l k)) (sym (take_all n d (omega arith))))

due_within : (ts : List ℕ) (live : ℕ) (scores : List ℕ) (rule : Commission) (puck : ℕ) → length scores ≡ length ts → rule.rate ≤ 1000 → sum_of (due_of ts live scores rule puck) ≤ sum_of ts
due_within ts live scores rule puck l r = omega (arith, none_lost ts live scores rule puck l r)

-- what all are due is at most what all have put in
pub due_totals : (t : Table) → Payable t → sum_of (due_now t) ≤ sum_of (totals_of t)
due_totals t h =
    due_within (totals_of t) (lives_of t) (scores_of t) (commission_of t) t.play.puck
    (map_length (score_of t.sheet.deck t.sheet.game t.board) t.chairs ∙ sym (map_length (column_of what.Total) t.chairs))
    (omega (arith, sheet_rate t.sheet h.sheet))

pub due_small : (t : Table) → Payable t → sum_of (due_now t) ≤ 100000000
due_small t h = omega (arith, due_totals t h, totals_within t.chairs, h.chips)

module _ (t : Table) (ts sc due paid sits : List ℕ) (lv hr fee un : ℕ) (rule : Commission) (ts-is : ts ≡ totals_of t) (lv-is : lv ≡ lives_of t) (sc-is : sc ≡ scores_of t)
    (rule-is : rule ≡ commission_of t) (due-is : due ≡ due_of ts lv sc rule t.play.puck) where
  pub due_now_law : due ≡ due_now t
  due_now_law = rw (ts-is, lv-is, sc-is, rule-is) at due-is

  pub payout_is : {off : ℕ} → fee ≡ fee_of_hand ts lv rule → off ≡ drop_of_hand ts lv rule → hr ≡ here_of t → paid ≡ paid_of due hr → un ≡ unclaimed_of due hr → sits ≡ map (column_of what.Sitting) t.chairs
      → ◌≡◌ {A = Payout} (record { settled = true; fee = fee; drop = off; paid = paid; sittings = sits; unclaimed = un }) (payout_now t)
  unfolding payout_now
  payout_is fee-is off-is hr_is paid-is un-is sits-is =
      let f = rw (ts-is, lv-is, rule-is) at fee-is in
      let d = rw (ts-is, lv-is, rule-is) at off-is in
      let p = rw (due_now_law, hr_is) at paid-is in
      let u = rw (due_now_law, hr_is) at un-is in
      rw (f, d, p, u, sits-is)

-- what is paid to one is at most what all have put in
pub paid_at : (t : Table) → Payable t → (i : ℕ) → get_or (payout_now t).paid i 0 ≤ 100000000
unfolding payout_now
paid_at t h i = omega (arith, due_small t h, paid_and_unclaimed (due_now t) (here_of t), at_most_sum (paid_of (due_now t) (here_of t)) i)

pub paid_sum : (t : Table) → Payable t → sum_of (payout_now t).paid ≤ sum_of (totals_of t)
unfolding payout_now
paid_sum t h = omega (arith, due_totals t h, paid_and_unclaimed (due_now t) (here_of t))

pub stack_at : (cs : List Chair) (i : ℕ) → (get_or cs i no_chair).stack ≤ chips_of cs
stack_at [] i = omega arith
stack_at (c ∷ cs) zero = omega arith
stack_at (c ∷ cs) (suc i) = omega (arith, stack_at cs i)

pub room_at : (t : Table) → Payable t → (ps : List ℕ) → ps ≡ (payout_now t).paid → (i : ℕ) → (get_or t.chairs i no_chair).stack + get_or ps i 0 ≤ 4000000000
room_at t h ps e i = rw e (omega (arith, stack_at t.chairs i, paid_at t h i, h.chips))
