-- The two arms with a sweep. An act: fold, check, call and wager are one, with a sweep up to 0 where it is no wager, and what is refused is put down as it
-- was. A board card: with the sweep of a new round where one opens. Assumes nothing.
use Prim.Native.Nat.{ℕ, ◌+◌, ◌-◌, ◌≤◌}
use mathlib.Core.Bool.{Bool, true, false, true≢false, false≢true}
use mathlib.Core.Path.{◌≡◌, refl, sym, ap, ◌∙◌}
use mathlib.Core.List.{List, [], ◌∷◌, ◌++◌, map}
use mathlib.Core.Logic.{inl, inr}
use native.Mathlib.Omega.{arith}
use lib.ListN.{take, drop, set}
use lib.Dec.{eqb, leb}
use borrow.Author.Tests.{leb-true, leb-false}
use types.Run.{OneOf}
use denote.Enum.Declared.{tag_of}
use Rattle.laws.specs.Tests.{both, pick}
use Rattle.laws.proofs.Tests.{both_true}
use Rattle.paper.specs.contracts.Entry.{the_type}
use Rattle.paper.specs.Paper.{between, is_seat, in_kind}
use Rattle.paper.specs.SheetAndEntries.{numbers_of}
use Rattle.paper.specs.declared.Numbers.{Numbers}
use Rattle.paper.specs.declared.Entry.{Entry}
use Rattle.paper.specs.declared.Entry.TheVariants.{Sit, Leave, Hand, Hole, Fold, Check, Call, Wager, Board, Dead, Settle, Void}
use Rattle.chairs.specs.Chairs.{no_chair, put_at, want_of, first_of, clockwise, sweep_of, Above, Seats}
use Rattle.chairs.specs.declared.Chair.{Chair}
use Rattle.chairs.specs.Sweep.{Sweep, Again, Round}
use Rattle.chairs.specs.Who.{Owing}
use Rattle.chairs.proofs.Above.{sweep_none, above_sweep, seats_sweep}
use Rattle.table.specs.State.{seat_of, with_chairs, with_mark, with_card, card_added}
use Rattle.table.specs.Betting.{live_hands, only_with_chips, owes, first_owing, after_act, folded_to, checked_to, called_to, wagered_to, is_act, acted_by, is_full_lift, lift_after, new_round}
use Rattle.table.specs.Dealing.{board_code, boarded_to}
use Rattle.table.specs.Settle.{no_payout}
use Rattle.table.specs.Take.{Sound, kind_code, applied_to, payout_by, kind_taken}
use Rattle.table.specs.declared.table.Board.{Board as Cards}
use Rattle.table.specs.declared.table.Table.{Table}
use Rattle.table.specs.declared.table.Taken.{Taken}
use Rattle.table.proofs.Laws.{owing_few, owing_many}
use Rattle.table.proofs.Arms.{set_place, put_same, plain_taken}

-- the first owing seat, as it is found: none where fewer than two hands are live
pub owing_is : (u : Table) (s : ℕ)
    → pick (leb 2 (live_hands u)) (first_of (want_of (Owing u.play.mark (only_with_chips u))) u.chairs (clockwise u.sheet.seats s)) 0 ≡ first_owing u s
owing_is u s = go (leb 2 (live_hands u)) refl
  where
    go : (b : Bool) → leb 2 (live_hands u) ≡ b → pick b (first_of (want_of (Owing u.play.mark (only_with_chips u))) u.chairs (clockwise u.sheet.seats s)) 0 ≡ first_owing u s
    go true q = sym (owing_many u s (leb-true 2 (live_hands u) q))
    go false q = sym (owing_few u s (leb-false 2 (live_hands u) q))

-- ---- the sweep up to a last chair: of all chairs, or of none
pub swept_by : (f : Chair → Chair) → f no_chair ≡ no_chair → (w : Bool) (n last : ℕ) (cs : List Chair) → Above n cs → last ≡ pick w n 0
    → map f (take last cs) ++ drop last cs ≡ pick w (map f cs) cs
swept_by f z true n last cs h l = ap (λ (m : ℕ). map f (take m cs) ++ drop m cs) l ∙ above_sweep f z n cs h
swept_by f z false n last cs h l = ap (λ (m : ℕ). map f (take m cs) ++ drop m cs) l

pub last_most : (w : Bool) (n last : ℕ) → n ≤ 10 → last ≡ pick w n 0 → last ≤ 10
last_most true n last h e = omega arith
last_most false n last h e = omega arith

pub seats_by : (k : Sweep) (w : Bool) (n : ℕ) (cs : List Chair) → Seats n cs → Seats n (pick w (map (sweep_of k) cs) cs)
seats_by k true n cs h = seats_sweep k n cs h
seats_by k false n cs h = h

-- the chairs after the sweep, and after the seat's own is put down
pub swept_put : (k : Sweep) (w : Bool) (t : Table) (last i s : ℕ) (d : Chair) (ds : List Chair) → Sound t → last ≡ pick w t.sheet.seats 0
    → ds ≡ map (sweep_of k) (take last t.chairs) → i + 1 ≡ s → set (ds ++ drop last t.chairs) i d ≡ put_at (pick w (map (sweep_of k) t.chairs) t.chairs) s d
swept_put k w t last i s d ds h l e p =
    set_place (ds ++ drop last t.chairs) i s d p
    ∙ ap (λ (x : List Chair). put_at (x ++ drop last t.chairs) s d) e
    ∙ ap (λ (x : List Chair). put_at x s d) (swept_by (sweep_of k) (sweep_none k) w t.sheet.seats last t.chairs h.standing.seated.above l)

-- ---- which entries are acts
among : (x : ℕ) → OneOf (4 ∷ 5 ∷ 6 ∷ 7 ∷ []) x → (4 ≤ x) × (x ≤ 7)
among x (inl e) = (omega arith, omega arith)
among x (inr (inl e)) = (omega arith, omega arith)
among x (inr (inr (inl e))) = (omega arith, omega arith)
among x (inr (inr (inr e))) = (omega arith, omega arith)

pub acts : (e : Entry) → OneOf (4 ∷ 5 ∷ 6 ∷ 7 ∷ []) (tag_of the_type e) → is_act e ≡ true
acts (Sit s a) k = absurd (omega (arith, (among 0 k).0))
acts (Leave s) k = absurd (omega (arith, (among 1 k).0))
acts (Hand s) k = absurd (omega (arith, (among 2 k).0))
acts (Hole s a b) k = absurd (omega (arith, (among 3 k).0))
acts (Fold s) k = refl
acts (Check s) k = refl
acts (Call s) k = refl
acts (Wager s a) k = refl
acts (Board c) k = absurd (omega (arith, (among 8 k).1))
acts (Dead s) k = absurd (omega (arith, (among 9 k).1))
acts Settle k = absurd (omega (arith, (among 10 k).1))
acts Void k = absurd (omega (arith, (among 11 k).1))

-- and which are none
outside : (x : ℕ) → 4 ≤ x → x ≤ 7 → OneOf (0 ∷ 1 ∷ 2 ∷ 3 ∷ 8 ∷ 9 ∷ 10 ∷ 11 ∷ []) x → ⊥
outside x l h (inl e) = omega arith
outside x l h (inr (inl e)) = omega arith
outside x l h (inr (inr (inl e))) = omega arith
outside x l h (inr (inr (inr (inl e)))) = omega arith
outside x l h (inr (inr (inr (inr (inl e))))) = omega arith
outside x l h (inr (inr (inr (inr (inr (inl e)))))) = omega arith
outside x l h (inr (inr (inr (inr (inr (inr (inl e))))))) = omega arith
outside x l h (inr (inr (inr (inr (inr (inr (inr e))))))) = omega arith

pub no_act : (e : Entry) → OneOf (0 ∷ 1 ∷ 2 ∷ 3 ∷ 8 ∷ 9 ∷ 10 ∷ 11 ∷ []) (tag_of the_type e) → is_act e ≡ false
no_act (Sit s a) k = refl
no_act (Leave s) k = refl
no_act (Hand s) k = refl
no_act (Hole s a b) k = refl
no_act (Fold s) k = absurd (outside 4 (omega arith) (omega arith) k)
no_act (Check s) k = absurd (outside 5 (omega arith) (omega arith) k)
no_act (Call s) k = absurd (outside 6 (omega arith) (omega arith) k)
no_act (Wager s a) k = absurd (outside 7 (omega arith) (omega arith) k)
no_act (Board c) k = refl
no_act (Dead s) k = refl
no_act Settle k = refl
no_act Void k = refl

pub no_acted : (t : Table) (c : Chair) (e : Entry) → is_act e ≡ false → c ≡ acted_by t c e
no_acted t c (Sit s a) q = refl
no_acted t c (Leave s) q = refl
no_acted t c (Hand s) q = refl
no_acted t c (Hole s a b) q = refl
no_acted t c (Fold s) q = absurd (true≢false q)
no_acted t c (Check s) q = absurd (true≢false q)
no_acted t c (Call s) q = absurd (true≢false q)
no_acted t c (Wager s a) q = absurd (true≢false q)
no_acted t c (Board k) q = refl
no_acted t c (Dead s) q = refl
no_acted t c Settle q = refl
no_acted t c Void q = refl

-- the seat of an act is one of the table's
seat_in : (t : Table) (e : Entry) → is_act e ≡ true → in_kind t.sheet e ≡ true → is_seat t.sheet (numbers_of e).seat ≡ true
seat_in t (Sit s a) q r = absurd (false≢true q)
seat_in t (Leave s) q r = absurd (false≢true q)
seat_in t (Hand s) q r = absurd (false≢true q)
seat_in t (Hole s a b) q r = absurd (false≢true q)
seat_in t (Fold s) q r = r
seat_in t (Check s) q r = r
seat_in t (Call s) q r = r
seat_in t (Wager s a) q r = (both_true (is_seat t.sheet s) (between 1 100000000 a) r).0
seat_in t (Board k) q r = absurd (false≢true q)
seat_in t (Dead s) q r = absurd (false≢true q)
seat_in t Settle q r = absurd (false≢true q)
seat_in t Void q r = absurd (false≢true q)

pub act_seat : (t : Table) (e : Entry) (x : Numbers) → x ≡ numbers_of e → is_act e ≡ true → in_kind t.sheet e ≡ true → is_seat t.sheet x.seat ≡ true
act_seat t e x n q r = ap (λ (y : Numbers). is_seat t.sheet y.seat) n ∙ seat_in t e q r

act_plain : (t : Table) (e : Entry) → is_act e ≡ true → payout_by t e ≡ no_payout
act_plain t (Sit s a) q = refl
act_plain t (Leave s) q = refl
act_plain t (Hand s) q = refl
act_plain t (Hole s a b) q = refl
act_plain t (Fold s) q = refl
act_plain t (Check s) q = refl
act_plain t (Call s) q = refl
act_plain t (Wager s a) q = refl
act_plain t (Board k) q = refl
act_plain t (Dead s) q = refl
act_plain t Settle q = absurd (false≢true q)
act_plain t Void q = refl

-- ---- the table after an act
-- a table with other chairs, board, mark, lift and turn
abbrev pub laid : Table → List Chair → Cards → ℕ → ℕ → ℕ → Table
laid t cs b m l n =
    record {
      sheet = t.sheet;
      taken = t.taken;
      sittings = t.sittings;
      play = record { opened = t.play.opened; puck = t.play.puck; mark = m; lift = l; turn = n };
      board = b;
      chairs = cs;
    }

-- the chairs before the seat's own is put down: w where the act is a wager
abbrev swept_for : Table → ℕ → Bool → List Chair
swept_for t a w = pick w (map (sweep_of (Again (is_full_lift t a))) t.chairs) t.chairs

abbrev act_table : Table → ℕ → ℕ → Bool → Chair → Table
act_table t s a w d =
    laid t (put_at (swept_for t a w) s d) t.board (pick w a t.play.mark) (pick w (lift_after t a) t.play.lift)
    (first_owing (with_mark (with_chairs t (put_at (swept_for t a w) s d)) (pick w a t.play.mark) t.play.lift) s)

act_applied : (t : Table) (e : Entry) → is_act e ≡ true
    → applied_to t e ≡ act_table t (numbers_of e).seat (numbers_of e).a (eqb (numbers_of e).kind 7) (acted_by t (seat_of t (numbers_of e).seat) e)
unfolding folded_to checked_to called_to wagered_to after_act first_owing owes live_hands only_with_chips
act_applied t (Sit s a) q = absurd (false≢true q)
act_applied t (Leave s) q = absurd (false≢true q)
act_applied t (Hand s) q = absurd (false≢true q)
act_applied t (Hole s a b) q = absurd (false≢true q)
act_applied t (Fold s) q = refl
act_applied t (Check s) q = refl
act_applied t (Call s) q = refl
act_applied t (Wager s a) q = refl
act_applied t (Board k) q = absurd (false≢true q)
act_applied t (Dead s) q = absurd (false≢true q)
act_applied t Settle q = absurd (false≢true q)
act_applied t Void q = absurd (false≢true q)

-- or as it was, where it is refused
act_or : (t : Table) (s a : ℕ) (w ok : Bool) (d : Chair)
    → laid t (put_at (swept_for t a (both ok w)) s (pick ok d (seat_of t s))) t.board (pick (both ok w) a t.play.mark) (pick (both ok w) (lift_after t a) t.play.lift)
    (pick ok (first_owing (with_mark (with_chairs t (put_at (swept_for t a (both ok w)) s (pick ok d (seat_of t s)))) (pick (both ok w) a t.play.mark) t.play.lift) s) t.play.turn)
    ≡ pick ok (act_table t s a w d) t
act_or t s a w true d = refl
act_or t s a w false d = ap (λ (l : List Chair). laid t l t.board t.play.mark t.play.lift t.play.turn) (put_same t.chairs s)

pub act_taken : (t : Table) (e : Entry) (x : Numbers) (k mark up lift next : ℕ) (c y d : Chair) (w full : Bool) (ds : List Chair) (r : Taken) → is_act e ≡ true
    → x ≡ numbers_of e → c ≡ seat_of t x.seat → k ≡ kind_code t e → y ≡ acted_by t c e → d ≡ pick (eqb k 0) y c → w ≡ both (eqb k 0) (eqb x.kind 7)
    → full ≡ is_full_lift t x.a → ds ≡ put_at (pick w (map (sweep_of (Again full)) t.chairs) t.chairs) x.seat d
    → mark ≡ pick w x.a t.play.mark → up ≡ lift_after t x.a → lift ≡ pick w up t.play.lift
    → next ≡ pick (eqb k 0) (first_owing (with_mark (with_chairs t ds) mark t.play.lift) x.seat) t.play.turn
    → (r.code ≡ k) × (r.table ≡ laid t ds t.board mark lift next) × (r.payout ≡ no_payout) → r ≡ kind_taken t e
act_taken t e x k mark up lift next c y d w full ds r q x-is c-is k-is y-is d-is w-is Full-is ds-is mark-is up_is lift-is next-is f =
    let p = rw (next-is, lift-is, up_is, mark-is, ds-is, d-is, y-is, c-is, Full-is, w-is, x-is) at f.1 in
    let o = act_or t (numbers_of e).seat (numbers_of e).a (eqb (numbers_of e).kind 7) (eqb k 0) (acted_by t (seat_of t (numbers_of e).seat) e) in
    plain_taken t e r (act_plain t e q) (f.0 ∙ k-is)
    (p ∙ o ∙ ap (λ (v : Table). pick (eqb k 0) v t) (sym (act_applied t e q)) ∙ ap (λ (n : ℕ). pick (eqb n 0) (applied_to t e) t) k-is) f.2

-- ---- the table after a board card
abbrev board_after : Table → ℕ → Bool → Cards
board_after t a ok = pick ok (card_added t.board a) t.board

abbrev opens : Table → ℕ → Bool → Bool
opens t a ok = both ok (leb 3 (board_after t a ok).count)

abbrev round_table : Table → Cards → Bool → Table
round_table t b w =
    laid t (pick w (map (sweep_of Round) t.chairs) t.chairs) b (pick w 0 t.play.mark) (pick w t.sheet.big t.play.lift)
    (pick w (first_owing (with_mark (with_chairs t (pick w (map (sweep_of Round) t.chairs) t.chairs)) 0 t.play.lift) (t.play.puck - 1)) t.play.turn)

board_or : (t : Table) (a : ℕ) (ok : Bool) → round_table t (board_after t a ok) (opens t a ok) ≡ pick ok (boarded_to t a) t
unfolding boarded_to new_round first_owing owes live_hands only_with_chips
board_or t a true = go (leb 3 (t.board.count + 1))
  where
    go : (b : Bool) → round_table t (card_added t.board a) b ≡ pick b (new_round (with_card t a)) (with_card t a)
    go true = refl
    go false = refl
board_or t a false = refl

pub board_taken : (t : Table) (a k mark lift back next : ℕ) (b : Cards) (w : Bool) (ds : List Chair) (r : Taken) → k ≡ board_code t a
    → b ≡ pick (eqb k 0) (card_added t.board a) t.board → w ≡ both (eqb k 0) (leb 3 b.count) → ds ≡ pick w (map (sweep_of Round) t.chairs) t.chairs
    → mark ≡ pick w 0 t.play.mark → lift ≡ pick w t.sheet.big t.play.lift → back ≡ t.play.puck - 1
    → next ≡ pick w (first_owing (with_mark (with_chairs t ds) 0 t.play.lift) back) t.play.turn
    → (r.code ≡ k) × (r.table ≡ laid t ds b mark lift next) × (r.payout ≡ no_payout) → r ≡ kind_taken t (Board a)
board_taken t a k mark lift back next b w ds r k-is b-is w-is ds-is mark-is lift-is back_is next-is f =
    let p = rw (next-is, back_is, lift-is, mark-is, ds-is, w-is, b-is) at f.1 in
    plain_taken t (Board a) r refl (f.0 ∙ k-is) (p ∙ board_or t a (eqb k 0) ∙ ap (λ (n : ℕ). pick (eqb n 0) (boarded_to t a) t) k-is) f.2
