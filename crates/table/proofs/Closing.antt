-- What an entry leaves of the chairs' number, and what a settle leaves of `ChairOk`: nothing is paid where nobody sits. Assumes nothing.
use Prim.Native.Nat.{ℕ, zero, suc, ◌+◌, ◌≤◌, ◌<◌}
use mathlib.Core.Bool.{Bool, true, false, false≢true}
use mathlib.Core.Path.{◌≡◌, refl, sym, ap, ◌∙◌}
use mathlib.Core.List.{List, [], ◌∷◌, map}
use mathlib.Core.Logic.{⊎_elim}
use native.Mathlib.Omega.{arith}
use lib.Dec.{eqb, leb}
use lib.ListN.{length, get_or, length-set, get_or-eq_default}
use borrow.Author.Tests.{eqb-true, eqb-false, ne_eqb}
use Rattle.laws.specs.Tests.{pick, one}
use Rattle.laws.specs.Lists.{All}
use Rattle.paper.specs.declared.Entry.{Entry}
use Rattle.paper.specs.declared.Entry.TheVariants.{Sit, Leave, Hand, Hole, Fold, Check, Call, Wager, Board, Dead, Settle, Void}
use Rattle.chairs.specs.Chairs.{put_at, no_chair, dealt_of, rounded_of, again_of, closed_of, close_all, column_of}
use Rattle.chairs.specs.declared.Chair.{Chair}
use Rattle.chairs.proofs.Laws.{not_here}
use Rattle.pots.specs.Heights.{has, returned_of}
use Rattle.pots.specs.Runs.{pots_of}
use Rattle.pots.specs.Hand.{drop_of_hand}
use Rattle.pots.proofs.Masks.{live_length}
use Rattle.pots.proofs.Contest.{has_none, le_or_lt}
use Rattle.pots.proofs.Hands.{map_length, plus_length, won_length}
use Rattle.pots.proofs.Bounds.{bit_at, live_at_law, mask_bit, reach, reach_zero, due_at_most}
use Rattle.table.specs.State.{with_card}
use Rattle.table.specs.Betting.{after_act, is_full_lift, folded_to, checked_to, called_to, wagered_to, dead_to, new_round}
use Rattle.table.specs.Sittings.{sat_to, left_to}
use Rattle.table.specs.Opening.{next_dealt_in, opened_to, posted_to}
use Rattle.table.specs.Dealing.{held_to, boarded_to}
use Rattle.table.specs.Settle.{settled_to, payout_now, totals_of, lives_of, here_of, score_of, scores_of, commission_of, due_now}
use Rattle.table.specs.Take.{applied_to}
use Rattle.table.specs.Standing.{ChairOk, Standing}
use Rattle.table.specs.declared.table.Table.{Table}
use Rattle.table.proofs.ChairsOk.{ok_at}
use Rattle.chairs.specs.What as what

no_chair_length : (cs : List Chair) (x : ℕ) (d : Chair) → length (put_at cs x d) ≡ length cs
no_chair_length cs zero d = refl
no_chair_length cs (suc k) d = length-set cs k d

close_length : (cs : List Chair) (ps : List ℕ) → length (close_all cs ps) ≡ length cs
close_length [] ps = refl
close_length (c ∷ cs) [] = ap suc (close_length cs [])
close_length (c ∷ cs) (p ∷ ps) = ap suc (close_length cs ps)

-- an entry leaves as many chairs as there were
pub size_applied : (t : Table) (e : Entry) → length (applied_to t e).chairs ≡ length t.chairs
unfolding sat_to left_to opened_to posted_to held_to folded_to checked_to called_to wagered_to boarded_to new_round dead_to settled_to after_act
size_applied t (Sit x a) = no_chair_length t.chairs x _
size_applied t (Leave x) = no_chair_length t.chairs x _
size_applied t (Hand p) = no_chair_length _ (next_dealt_in t p) _ ∙ no_chair_length _ p _ ∙ map_length dealt_of t.chairs
size_applied t (Hole x a b) = no_chair_length t.chairs x _
size_applied t (Fold x) = no_chair_length t.chairs x _
size_applied t (Check x) = no_chair_length t.chairs x _
size_applied t (Call x) = no_chair_length t.chairs x _
size_applied t (Wager x a) = no_chair_length _ x _ ∙ map_length (again_of (is_full_lift t a)) t.chairs
size_applied t (Board k) = go (leb 3 (t.board.count + 1))
  where
    go : (b : Bool) → length (pick b (new_round (with_card t k)) (with_card t k)).chairs ≡ length t.chairs
    go true = map_length rounded_of t.chairs
    go false = refl
size_applied t (Dead x) = no_chair_length t.chairs x _
size_applied t Settle = close_length t.chairs (payout_now t).paid
size_applied t Void = refl

pub col_at : (f : Chair → ℕ) (cs : List Chair) (i : ℕ) → i < length cs → get_or (map f cs) i 0 ≡ f (get_or cs i no_chair)
col_at f [] i l = absurd (omega arith)
col_at f (c ∷ cs) zero l = refl
col_at f (c ∷ cs) (suc i) l = col_at f cs i (omega arith)

ok_place : (cs : List Chair) (i : ℕ) → All ChairOk cs → ChairOk (get_or cs i no_chair)
ok_place cs i a = ok_at cs (suc i) a

-- no sitting is due more than the sum of min(its total, theirs)
pub due_reach : (t : Table) (i : ℕ) → length t.chairs ≡ 10 → t.play.puck ≤ 10 → i < 10 → get_or (due_now t) i 0 ≤ reach (totals_of t) (get_or (totals_of t) i 0)
due_reach t i n k l =
    let lt = map_length (column_of what.Total) t.chairs in
    let ls = map_length (score_of t.sheet.deck t.sheet.game t.board) t.chairs in
    due_at_most (totals_of t) (lives_of t) (scores_of t) (commission_of t) t.play.puck i (ls ∙ sym lt) (omega arith) (omega arith)

-- nothing is due to a seat where nobody was dealt in, and nothing paid where the sitting dealt in has left
pub paid_none : (t : Table) (i : ℕ) → All ChairOk t.chairs → length t.chairs ≡ 10 → t.play.puck ≤ 10 → i < 10 → (get_or t.chairs i no_chair).sitting ≡ 0 → get_or (payout_now t).paid i 0 ≡ 0
unfolding payout_now
paid_none t i a n k l e = live_at_law (due_now t) (here_of t) i ∙ go (eqb c.dealt.sitting 0) refl
  where
    c : Chair
    c = get_or t.chairs i no_chair

    nil : (b : Bool) (v : ℕ) → v ≡ 0 → pick b v 0 ≡ 0
    nil true v z = z
    nil false v z = refl

    go : (b : Bool) → eqb (get_or t.chairs i no_chair).dealt.sitting 0 ≡ b → pick (eqb (bit_at (here_of t) i) 1) (get_or (due_now t) i 0) 0 ≡ 0
    go true q =
        let z : get_or (totals_of t) i 0 ≡ 0 = col_at (column_of what.Total) t.chairs i (omega arith) ∙ (ok_place t.chairs i a).none (eqb-true _ 0 q) in
        let d = due_reach t i n k l in
        nil (eqb (bit_at (here_of t) i) 1) (get_or (due_now t) i 0) (omega (arith, ap (reach (totals_of t)) z, reach_zero (totals_of t)))
    go false q =
        let away = not_here (get_or t.chairs i no_chair) (λ z. eqb-false _ 0 q (sym z ∙ e)) in
        let h : get_or (map (column_of what.Here) t.chairs) i 0 ≡ 0 = col_at (column_of what.Here) t.chairs i (omega arith) ∙ ap one away in
        let z : bit_at (here_of t) i ≡ 0 = mask_bit (map (column_of what.Here) t.chairs) 1 i (omega arith) ∙ ap (λ v. has v 1) h ∙ has_none 0 1 (omega arith) in
        ap (λ b. pick b (get_or (due_now t) i 0) 0) (ne_eqb (bit_at (here_of t) i) 1 (λ y. omega arith))

pub ok_close : (cs : List Chair) (ps : List ℕ) → All ChairOk cs → ((i : ℕ) → i < length cs → (get_or cs i no_chair).sitting ≡ 0 → get_or ps i 0 ≡ 0) → All ChairOk (close_all cs ps)
ok_close [] ps a h = tt
ok_close (c ∷ cs) [] a h = (one-closed c 0 a.0 (λ e. refl), ok_close cs [] a.1 (λ i l e. refl))
  where
    one-closed : (c : Chair) (p : ℕ) → ChairOk c → (c.sitting ≡ 0 → p ≡ 0) → ChairOk (closed_of c p)
    one-closed c p o z = record { start = omega arith; none = λ e. refl; dead = λ e. refl; here = λ l. absurd (false≢true l); empty = λ e. omega (arith, o.empty e, z e) }
ok_close (c ∷ cs) (p ∷ ps) a h = (one-closed c p a.0 (h 0 (omega arith)), ok_close cs ps a.1 (λ i l e. h (suc i) (omega arith) e))
  where
    one-closed : (c : Chair) (p : ℕ) → ChairOk c → (c.sitting ≡ 0 → p ≡ 0) → ChairOk (closed_of c p)
    one-closed c p o z = record { start = omega arith; none = λ e. refl; dead = λ e. refl; here = λ l. absurd (false≢true l); empty = λ e. omega (arith, o.empty e, z e) }

pub paid_length : (t : Table) → length (payout_now t).paid ≡ length t.chairs
unfolding payout_now
paid_length t =
    live_length (due_now t) (here_of t)
    ∙ plus_length _ (map (returned_of (totals_of t) (lives_of t)) (totals_of t))
    ∙ won_length (scores_of t) (commission_of t) t.play.puck t.sheet.cap (drop_of_hand (totals_of t) (lives_of t) (commission_of t)) (pots_of (totals_of t) (lives_of t))
    ∙ map_length (score_of t.sheet.deck t.sheet.game t.board) t.chairs

-- nothing is paid above the seats
pub paid_above : (t : Table) → Standing t → (i : ℕ) → t.sheet.seats ≤ i → get_or (payout_now t).paid i 0 ≡ 0
paid_above t h i l =
    ⊎_elim
    (λ (a : 10 ≤ i). get_or-eq_default (payout_now t).paid 0 (omega (arith, paid_length t, h.size)))
    (λ (a : i < 10). paid_none t i h.chairs h.size (omega (arith, h.puck, h.seated.few)) a (ap (λ (c : Chair). c.sitting) (h.seated.above (suc i) (omega arith))))
    (le_or_lt 10 i)
