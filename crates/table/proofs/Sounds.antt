-- What `take` keeps of `Sound`, the standing apart: no act makes chips but `sit`, which is refused past 100,000,000; sittings grow by one at most. Assumes nothing.
use Prim.Native.Nat.{ℕ, zero, suc, ◌+◌, ◌-◌, ◌≤◌}
use mathlib.Core.Bool.{Bool, true, false, not}
use mathlib.Core.Path.{◌≡◌, refl}
use mathlib.Core.List.{List, [], ◌∷◌, map}
use native.Mathlib.Omega.{arith}
use borrow.Author.Tests.{ltb-false, eqb-true, not-false}
use lib.Dec.{eqb, leb, ltb}
use Rattle.paper.specs.Paper.{when, or_else, between, is_seat, least_card, is_card, in_kind, in_range}
use Rattle.laws.specs.Tests.{both, pick}
use Rattle.paper.proofs.Codes.{or_zero, when_zero, between_in}
use Rattle.laws.proofs.Tests.{both_true}
use Rattle.paper.specs.declared.Sheet.{Sheet}
use Rattle.paper.specs.declared.Entry.{Entry}
use Rattle.paper.specs.declared.Entry.TheVariants.{Sit, Leave, Hand, Hole, Fold, Check, Call, Wager, Board, Dead, Settle, Void}
use Rattle.laws.specs.Lists.{sum_of}
use Rattle.chairs.specs.Chairs.{chair_at, chips_of, sweep_of, folded_of, acted_of, paid_of, seated_of, held_of, round_of, close_all, column_of}
use Rattle.chairs.proofs.Laws.{chips_put, chips_paid, chips_sweep}
use Rattle.chairs.specs.declared.Chair.{Chair}
use Rattle.chairs.specs.Sweep.{Again, Round, Deal}
use Rattle.table.specs.State.{seat_of, with_chair, with_chairs, with_mark, with_card}
use Rattle.table.specs.Betting.{after_act, is_full_lift, lift_after, folded_to, checked_to, called_to, wagered_to, dead_to, new_round}
use Rattle.table.specs.Sittings.{sit_code, sat_to, left_to}
use Rattle.table.specs.Opening.{next_dealt_in, opened_to, posted_to}
use Rattle.table.specs.Dealing.{held_to, boarded_to}
use Rattle.table.specs.Settle.{Payable, settled_to, payout_now}
use Rattle.table.specs.Take.{Sound, kind_code, code_of, applied_to}
use Rattle.table.specs.declared.table.Table.{Table}
use Rattle.table.proofs.Laws.{chips_posted, sheet_seats, paid_sum}
use Rattle.chairs.specs.What as what

-- what an act keeps of a table
pub record Kept (t u : Table) : Type 0 where
  pub chips : chips_of u.chairs ≤ chips_of t.chairs
  pub sittings : u.sittings ≡ t.sittings
  pub sheet : u.sheet ≡ t.sheet
  pub puck : u.play.puck ≡ t.play.puck

-- a chair with no more chips at a seat
kept_chair : (t : Table) (s : ℕ) (d : Chair) → d.stack + d.dealt.total ≤ (seat_of t s).stack + (seat_of t s).dealt.total → Kept t (with_chair t s d)
kept_chair t s d h = record { chips = omega (arith, chips_put t.chairs s d); sittings = refl; sheet = refl; puck = refl }

kept_act : (t : Table) (s : ℕ) (d : Chair) → d.stack + d.dealt.total ≤ (seat_of t s).stack + (seat_of t s).dealt.total → Kept t (after_act t s d)
unfolding after_act
kept_act t s d h = record { chips = omega (arith, chips_put t.chairs s d); sittings = refl; sheet = refl; puck = refl }

again_chips : (f : Bool) (cs : List Chair) (s : ℕ) → (chair_at (map (sweep_of (Again f)) cs) s).stack + (chair_at (map (sweep_of (Again f)) cs) s).dealt.total ≡ (chair_at cs s).stack + (chair_at cs s).dealt.total
again_chips f cs zero = refl
again_chips f [] (suc k) = refl
again_chips f (c ∷ cs) (suc zero) = refl
again_chips f (c ∷ cs) (suc (suc k)) = again_chips f cs (suc k)

kept_wager : (t : Table) (s a : ℕ) → Kept t (wagered_to t s a)
unfolding wagered_to
kept_wager t s a =
    let d = acted_of (paid_of (seat_of t s) (a - round_of (seat_of t s))) in
    let f = is_full_lift t a in
    let u = with_mark (with_chairs t (map (sweep_of (Again f)) t.chairs)) a (lift_after t a) in
    let k = kept_act u s d (omega (arith, chips_paid (seat_of t s) (a - round_of (seat_of t s)), again_chips f t.chairs s)) in
    record { chips = omega (arith, k.chips, chips_sweep (Again f) t.chairs); sittings = k.sittings; sheet = k.sheet; puck = k.puck }

kept_fold : (t : Table) (s : ℕ) → Kept t (folded_to t s)
unfolding folded_to
kept_fold t s = kept_act t s (folded_of (seat_of t s)) (omega arith)

kept_check : (t : Table) (s : ℕ) → Kept t (checked_to t s)
unfolding checked_to
kept_check t s = kept_act t s (acted_of (seat_of t s)) (omega arith)

kept_call : (t : Table) (s : ℕ) → Kept t (called_to t s)
unfolding called_to
kept_call t s =
    let a = t.play.mark - round_of (seat_of t s) in
    kept_act t s (acted_of (paid_of (seat_of t s) a)) (omega (arith, chips_paid (seat_of t s) a))

kept_leave : (t : Table) (s : ℕ) → Kept t (left_to t s)
unfolding left_to
kept_leave t s = kept_chair t s (seated_of (seat_of t s) 0 0) (omega arith)

kept_hole : (t : Table) (s a b : ℕ) → Kept t (held_to t s a b)
unfolding held_to
kept_hole t s a b = kept_chair t s (held_of (seat_of t s) a b) (omega arith)

kept_dead : (t : Table) (s : ℕ) → Kept t (dead_to t s)
unfolding dead_to
kept_dead t s =
    let k = kept_chair t s (folded_of (seat_of t s)) (omega arith) in
    record { chips = k.chips; sittings = k.sittings; sheet = k.sheet; puck = k.puck }

kept_round : (t : Table) → Kept t (new_round t)
unfolding new_round
kept_round t = record { chips = chips_sweep Round t.chairs; sittings = refl; sheet = refl; puck = refl }

kept_board : (t : Table) (k : ℕ) → Kept t (boarded_to t k)
unfolding boarded_to
kept_board t k = go (leb 3 (t.board.count + 1))
  where
    go : (b : Bool) → Kept t (pick b (new_round (with_card t k)) (with_card t k))
    go true = let r = kept_round (with_card t k) in record { chips = r.chips; sittings = r.sittings; sheet = r.sheet; puck = r.puck }
    go false = record { chips = omega arith; sittings = refl; sheet = refl; puck = refl }

-- a hand opens: its puck is the entry's seat
pub record Opened (t u : Table) (s : ℕ) : Type 0 where
  pub chips : chips_of u.chairs ≤ chips_of t.chairs
  pub sittings : u.sittings ≡ t.sittings
  pub sheet : u.sheet ≡ t.sheet
  pub puck : u.play.puck ≡ s

kept_open : (t : Table) (s : ℕ) → Opened t (opened_to t s) s
unfolding opened_to posted_to
kept_open t s =
    let d = with_chairs t (map (sweep_of Deal) t.chairs) in
    record {
      chips = omega (arith, chips_sweep Deal t.chairs, chips_posted d s t.sheet.small, chips_posted (posted_to d s t.sheet.small) (next_dealt_in t s) t.sheet.big);
      sittings = refl;
      sheet = refl;
      puck = refl;
    }

-- the chips after `sit`, which is refused past 100,000,000
sit_chips : (t : Table) (s a : ℕ) → sit_code t s a ≡ 0 → chips_of (sat_to t s a).chairs ≤ 100000000
unfolding sit_code sat_to
sit_chips t s a h =
    let e = when_zero (ltb 100000000 (chips_of t.chairs + a)) 8 (or_zero (when (not (eqb (seat_of t s).sitting 0)) 5) (when (ltb 100000000 (chips_of t.chairs + a)) 9) h).1 in
    omega (arith, ltb-false 100000000 (chips_of t.chairs + a) e, chips_put t.chairs s (seated_of (seat_of t s) (t.sittings + 1) a))

-- no chips are made by closing a hand
chips_close : (cs : List Chair) (ps : List ℕ) → chips_of (close_all cs ps) + sum_of (map (column_of what.Total) cs) ≤ chips_of cs + sum_of ps
unfolding sum_of
chips_close [] ps = omega arith
chips_close (c ∷ cs) [] = omega (arith, chips_close cs [])
chips_close (c ∷ cs) (p ∷ ps) = omega (arith, chips_close cs ps)

kept_settle : (t : Table) → Payable t → Kept t (settled_to t)
unfolding settled_to
kept_settle t h = record { chips = omega (arith, chips_close t.chairs (payout_now t).paid, paid_sum t h); sittings = refl; sheet = refl; puck = refl }

-- what an entry that is taken leaves
pub record Applied (t u : Table) : Type 0 where
  pub payable : Payable u
  pub sittings : u.sittings ≤ t.sittings + 1

applied : (t u : Table) → Sound t → Kept t u → Applied t u
applied t u h k =
    record {
      payable = record {
        chips = omega (arith, h.payable.chips, k.chips);
        sheet = rw k.sheet h.payable.sheet;
        puck = omega (arith, k.puck, h.payable.puck);
      };
      sittings = omega (arith, k.sittings);
    }

applied_sit : (t : Table) (s a : ℕ) → Sound t → sit_code t s a ≡ 0 → Applied t (sat_to t s a)
unfolding sat_to
applied_sit t s a h q =
    let e = sit_chips t s a q in
    record { payable = record { chips = e; sheet = h.payable.sheet; puck = h.payable.puck }; sittings = omega arith }

applied_open : (t u : Table) (s : ℕ) → Sound t → is_seat t.sheet s ≡ true → Opened t u s → Applied t u
unfolding is_seat
applied_open t u s h q k =
    record {
      payable = record {
        chips = omega (arith, h.payable.chips, k.chips);
        sheet = rw k.sheet h.payable.sheet;
        puck = omega (arith, k.puck, (between_in 1 t.sheet.seats s q).1, sheet_seats t.sheet h.payable.sheet);
      };
      sittings = omega (arith, k.sittings);
    }

pub sound_applied : (t : Table) (e : Entry) → Sound t → in_kind t.sheet e ≡ true → kind_code t e ≡ 0 → Applied t (applied_to t e)
sound_applied t (Sit s a) h r q = applied_sit t s a h q
sound_applied t (Leave s) h r q = applied t (left_to t s) h (kept_leave t s)
sound_applied t (Hand s) h r q = applied_open t (opened_to t s) s h r (kept_open t s)
sound_applied t (Hole s a b) h r q = applied t (held_to t s a b) h (kept_hole t s a b)
sound_applied t (Fold s) h r q = applied t (folded_to t s) h (kept_fold t s)
sound_applied t (Check s) h r q = applied t (checked_to t s) h (kept_check t s)
sound_applied t (Call s) h r q = applied t (called_to t s) h (kept_call t s)
sound_applied t (Wager s a) h r q = applied t (wagered_to t s a) h (kept_wager t s a)
sound_applied t (Board k) h r q = applied t (boarded_to t k) h (kept_board t k)
sound_applied t (Dead s) h r q = applied t (dead_to t s) h (kept_dead t s)
sound_applied t Settle h r q = applied t (settled_to t) h (kept_settle t h.payable)
sound_applied t Void h r q = absurd (omega arith)

-- no code of the whole: none of its parts
pub record Passed (t : Table) (n : ℕ) (e : Entry) : Type 0 where
  pub range : n ≤ 1000000
  pub kind : in_kind t.sheet e ≡ true
  pub next : t.taken + 1 ≡ n
  pub moment : kind_code t e ≡ 0

pub passed : (t : Table) (n : ℕ) (e : Entry) → code_of t n e ≡ 0 → Passed t n e
unfolding code_of in_range
passed t n e h =
    let ok = both (between 1 1000000 n) (in_kind t.sheet e) in
    let same = eqb (t.taken + 1) n in
    let p = or_zero (when (not ok) 2) (or_else (when (not same) 3) (kind_code t e)) h in
    let q = or_zero (when (not same) 3) (kind_code t e) p.1 in
    let r = both_true (between 1 1000000 n) (in_kind t.sheet e) (not-false ok (when_zero (not ok) 1 p.0)) in
    record {
      range = (between_in 1 1000000 n r.0).1;
      kind = r.1;
      next = eqb-true (t.taken + 1) n (not-false same (when_zero (not same) 2 q.0));
      moment = q.1;
    }

-- the ranges of cards
pub hole_cards : (sheet : Sheet) (s a b : ℕ) → in_kind sheet (Hole s a b) ≡ true → (a ≤ 51) × (b ≤ 51)
hole_cards sheet s a b h =
    let deck = sheet.deck in
    let p = both_true (is_seat sheet s) (both (is_card deck a) (is_card deck b)) h in
    let q = both_true (is_card deck a) (is_card deck b) p.1 in
    ((between_in (least_card deck) 51 a q.0).1, (between_in (least_card deck) 51 b q.1).1)

pub board_card : (sheet : Sheet) (k : ℕ) → in_kind sheet (Board k) ≡ true → k ≤ 51
board_card sheet k h = (between_in (least_card sheet.deck) 51 k h).1
