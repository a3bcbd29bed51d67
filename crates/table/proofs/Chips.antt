-- Stacks and totals together change only by `sit`, by `leave`, and by a settle's fee, drop and unclaimed chips: `chips_change`. Assumes nothing.
use Prim.Native.Nat.{ℕ, zero, suc, ◌+◌, ◌-◌, ◌≤◌, ◌<◌}
use mathlib.Core.Bool.{Bool, true, false}
use mathlib.Core.Path.{◌≡◌, refl, sym, ap, ◌∙◌}
use mathlib.Core.List.{List, [], ◌∷◌, map}
use native.Mathlib.Omega.{arith}
use lib.Dec.{leb}
use lib.ListN.{length}
use borrow.Author.Tests.{eq-eqb}
use Rattle.laws.specs.Tests.{pick}
use Rattle.laws.specs.Lists.{All, sum_of}
use Rattle.laws.proofs.Tests.{both_true}
use Rattle.paper.specs.Paper.{between, is_seat, in_kind}
use Rattle.paper.proofs.Codes.{between_in}
use Rattle.paper.specs.declared.Entry.{Entry}
use Rattle.paper.specs.declared.Entry.TheVariants.{Sit, Leave, Hand, Hole, Fold, Check, Call, Wager, Board, Dead, Settle, Void}
use Rattle.pots.proofs.Hands.{drop_lost, map_length}
use Rattle.table.proofs.Closing.{paid_length}
use Rattle.chairs.specs.Chairs.{chips_of, chair_at, put_at, round_of, paid_of, acted_of, folded_of, again_of, rounded_of, dealt_of, seated_of, held_of, close_all, column_of}
use Rattle.chairs.specs.declared.Chair.{Chair}
use Rattle.chairs.specs.declared.Dealt.{Dealt}
use Rattle.chairs.proofs.Laws.{chips_paid}
use Rattle.chairs.proofs.Over.{map_at}
use Rattle.table.specs.State.{seat_of, with_card}
use Rattle.table.specs.Betting.{after_act, is_full_lift, folded_to, checked_to, called_to, wagered_to, dead_to, new_round}
use Rattle.table.specs.Sittings.{sat_to, left_to}
use Rattle.table.specs.Opening.{next_dealt_in, posted_to, opened_to}
use Rattle.table.specs.Dealing.{held_to, boarded_to}
use Rattle.table.specs.Settle.{Payable, settled_to, payout_now, totals_of, lives_of, here_of, score_of, scores_of, commission_of}
use Rattle.table.specs.Take.{Sound, kind_code, code_of, applied_to, next_of}
use Rattle.table.specs.Standing.{Cleared, Standing}
use Rattle.table.specs.Chips.{brought_by, taken_off_by}
use Rattle.table.specs.declared.table.Table.{Table}
use Rattle.table.proofs.Laws.{sheet_rate, sheet_seats}
use Rattle.table.proofs.ChairsOk.{ok_at}
use Rattle.table.proofs.Codes.{sit_empty, hand_closed}
use Rattle.table.proofs.Sounds.{passed}
use Rattle.chairs.specs.What as what

-- ---- chairs
chips_same : (cs : List Chair) (x : ℕ) (d : Chair) → d.stack + d.dealt.total ≡ (chair_at cs x).stack + (chair_at cs x).dealt.total → chips_of (put_at cs x d) ≡ chips_of cs
chips_same cs zero d e = refl
chips_same [] (suc k) d e = refl
chips_same (c ∷ cs) (suc zero) d e = omega (arith, e)
chips_same (c ∷ cs) (suc (suc k)) d e = omega (arith, chips_same cs (suc k) d e)

chips_in : (cs : List Chair) (x : ℕ) (d : Chair) → 0 < x → x ≤ length cs
    → chips_of (put_at cs x d) + ((chair_at cs x).stack + (chair_at cs x).dealt.total) ≡ chips_of cs + (d.stack + d.dealt.total)
chips_in cs zero d l u = absurd (omega arith)
chips_in [] (suc k) d l u = absurd (omega arith)
chips_in (c ∷ cs) (suc zero) d l u = omega arith
chips_in (c ∷ cs) (suc (suc k)) d l u = omega (arith, chips_in cs (suc k) d (omega arith) (omega arith))

chips_map : (f : Chair → Chair) → ((c : Chair) → (f c).stack + (f c).dealt.total ≡ c.stack + c.dealt.total) → (cs : List Chair) → chips_of (map f cs) ≡ chips_of cs
chips_map f e [] = refl
chips_map f e (c ∷ cs) = omega (arith, e c, chips_map f e cs)

-- a hand opens where there is no hand record
chips_deal : (cs : List Chair) → All Cleared cs → chips_of (map dealt_of cs) ≡ chips_of cs
chips_deal [] a = refl
chips_deal (c ∷ cs) a = omega (arith, ap (λ (d : Dealt). d.total) a.0, chips_deal cs a.1)

chips_close : (cs : List Chair) (ps : List ℕ) → length ps ≡ length cs → chips_of (close_all cs ps) + sum_of (map (column_of what.Total) cs) ≡ chips_of cs + sum_of ps
unfolding sum_of
chips_close [] [] l = refl
chips_close [] (p ∷ ps) l = absurd (omega arith)
chips_close (c ∷ cs) [] l = absurd (omega arith)
chips_close (c ∷ cs) (p ∷ ps) l = omega (arith, chips_close cs ps (omega arith))

-- ---- a settle: all that was put in is paid, is commission, is dropped or is unclaimed
pub settle_all : (t : Table) → Payable t → sum_of (payout_now t).paid + (payout_now t).fee + (payout_now t).drop + (payout_now t).unclaimed ≡ sum_of (totals_of t)
unfolding payout_now
settle_all t h =
    let l = map_length (score_of t.sheet.deck t.sheet.game t.board) t.chairs ∙ sym (map_length (column_of what.Total) t.chairs) in
    drop_lost (totals_of t) (lives_of t) (scores_of t) (commission_of t) t.play.puck (here_of t) l (omega (arith, sheet_rate t.sheet h.sheet))

-- ---- entries
seat_there : (t : Table) (x : ℕ) → Sound t → Standing t → is_seat t.sheet x ≡ true → (0 < x) × (x ≤ length t.chairs)
unfolding is_seat
seat_there t x w h r =
    let p = between_in 1 t.sheet.seats x r in
    (omega (arith, p.0), omega (arith, p.1, sheet_seats t.sheet w.payable.sheet, h.size))

chips_sit : (t : Table) (x a : ℕ) → Sound t → Standing t → is_seat t.sheet x ≡ true → (seat_of t x).stack ≡ 0 → chips_of (sat_to t x a).chairs ≡ chips_of t.chairs + a
unfolding sat_to
chips_sit t x a w h r e =
    let p = seat_there t x w h r in
    omega (arith, e, chips_in t.chairs x (seated_of (seat_of t x) (t.sittings + 1) a) p.0 p.1)

chips_leave : (t : Table) (x : ℕ) → Sound t → Standing t → is_seat t.sheet x ≡ true → chips_of (left_to t x).chairs + (seat_of t x).stack ≡ chips_of t.chairs
unfolding left_to
chips_leave t x w h r =
    let p = seat_there t x w h r in
    omega (arith, chips_in t.chairs x (seated_of (seat_of t x) 0 0) p.0 p.1)

chips_post : (t : Table) (x a : ℕ) → chips_of (posted_to t x a).chairs ≡ chips_of t.chairs
unfolding posted_to
chips_post t x a = chips_same t.chairs x (paid_of (seat_of t x) a) (chips_paid (seat_of t x) a)

chips_open : (t : Table) (p : ℕ) → All Cleared t.chairs → chips_of (opened_to t p).chairs ≡ chips_of t.chairs
unfolding opened_to
chips_open t p a = chips_post _ (next_dealt_in t p) t.sheet.big ∙ chips_post _ p t.sheet.small ∙ chips_deal t.chairs a

chips_wager : (t : Table) (x a : ℕ) → chips_of (wagered_to t x a).chairs ≡ chips_of t.chairs
unfolding wagered_to after_act
chips_wager t x a =
    let again = again_of (is_full_lift t a) in
    let cs = map again t.chairs in
    let m = a - round_of (seat_of t x) in
    let at : chair_at cs x ≡ again (seat_of t x) = map_at again t.chairs x refl in
    let e : (chair_at cs x).stack + (chair_at cs x).dealt.total ≡ (seat_of t x).stack + (seat_of t x).dealt.total = ap (λ (c : Chair). c.stack + c.dealt.total) at in
    chips_same cs x (acted_of (paid_of (seat_of t x) m)) (chips_paid (seat_of t x) m ∙ sym e) ∙ chips_map again (λ c. refl) t.chairs

chips_board : (t : Table) (k : ℕ) → chips_of (boarded_to t k).chairs ≡ chips_of t.chairs
unfolding boarded_to new_round
chips_board t k = go (leb 3 (t.board.count + 1))
  where
    go : (b : Bool) → chips_of (pick b (new_round (with_card t k)) (with_card t k)).chairs ≡ chips_of t.chairs
    go true = chips_map rounded_of (λ c. refl) t.chairs
    go false = refl

chips_settle : (t : Table) → Payable t → chips_of (settled_to t).chairs + ((payout_now t).fee + (payout_now t).drop + (payout_now t).unclaimed) ≡ chips_of t.chairs
unfolding settled_to
chips_settle t h = omega (arith, chips_close t.chairs (payout_now t).paid (paid_length t), settle_all t h)

chips_call : (t : Table) (x : ℕ) → chips_of (called_to t x).chairs ≡ chips_of t.chairs
unfolding called_to after_act
chips_call t x = chips_same t.chairs x _ (chips_paid (seat_of t x) (t.play.mark - round_of (seat_of t x)))

chips_applied : (t : Table) (e : Entry) → Sound t → Standing t → in_kind t.sheet e ≡ true → kind_code t e ≡ 0 → chips_of (applied_to t e).chairs + taken_off_by t e ≡ chips_of t.chairs + brought_by e
unfolding held_to folded_to checked_to dead_to after_act
chips_applied t (Sit x a) w h r q =
    let o = (ok_at t.chairs x h.chairs).empty (sit_empty t x a q) in
    omega (arith, chips_sit t x a w h (both_true (is_seat t.sheet x) (between 1 1000000 a) r).0 o)
chips_applied t (Leave x) w h r q = omega (arith, chips_leave t x w h r)
chips_applied t (Hand p) w h r q = omega (arith, chips_open t p (h.cleared (hand_closed t p q).0))
chips_applied t (Hole x a b) w h r q = omega (arith, chips_same t.chairs x (held_of (seat_of t x) a b) refl)
chips_applied t (Fold x) w h r q = omega (arith, chips_same t.chairs x (folded_of (seat_of t x)) refl)
chips_applied t (Check x) w h r q = omega (arith, chips_same t.chairs x (acted_of (seat_of t x)) refl)
chips_applied t (Call x) w h r q = omega (arith, chips_call t x)
chips_applied t (Wager x a) w h r q = omega (arith, chips_wager t x a)
chips_applied t (Board k) w h r q = omega (arith, chips_board t k)
chips_applied t (Dead x) w h r q = omega (arith, chips_same t.chairs x (folded_of (seat_of t x)) refl)
chips_applied t Settle w h r q = omega (arith, chips_settle t w.payable)
chips_applied t Void w h r q = absurd (omega arith)

-- a taken entry: what is there afterwards and what went is what was there and what came
pub chips_change : (t : Table) (n : ℕ) (e : Entry) → Sound t → Standing t → code_of t n e ≡ 0
    → chips_of (next_of t n e).chairs + taken_off_by t e ≡ chips_of t.chairs + brought_by e
unfolding next_of
chips_change t n e w h q =
    let p = passed t n e q in
    rw (eq-eqb (code_of t n e) 0 q) (chips_applied t e w h p.kind p.moment)
