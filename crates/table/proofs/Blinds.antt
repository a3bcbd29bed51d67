-- A hand that opens: both blinds are posted at seats of the table that are not the same, so that the two chairs may be put down once everybody is dealt
-- in; and the first turn as `turn_from` finds it. Assumes nothing.
use Prim.Native.Nat.{ℕ, zero, suc, ◌+◌, ◌≤◌, ◌<◌}
use mathlib.Core.Bool.{true, false, true≢false}
use mathlib.Core.Path.{◌≡◌, refl, sym, ap, ap₂, subst, ◌∙◌}
use mathlib.Core.List.{List, map}
use mathlib.Core.Logic.{⊎_elim}
use native.Mathlib.Omega.{arith}
use lib.Dec.{leb}
use borrow.Author.Tests.{leb-true, leb-false}
use Rattle.laws.specs.Tests.{pick}
use Rattle.laws.proofs.Tests.{test}
use Rattle.paper.specs.Paper.{is_seat}
use Rattle.chairs.specs.Chairs.{is_dealt_in, chair_at, put_at, want_of, count_of, first_of, clockwise, sweep_of, dealt_of, paid_of, chips_of, Seats}
use Rattle.chairs.specs.declared.Chair.{Chair}
use Rattle.chairs.specs.Who.{Live, LiveWithChips, Owing}
use Rattle.chairs.specs.Sweep.{Deal}
use Rattle.chairs.proofs.Laws.{chips_at}
use Rattle.chairs.proofs.Clockwise.{put_other}
use Rattle.chairs.proofs.Over.{map_at}
use Rattle.table.specs.State.{seat_of, with_chairs, with_play}
use Rattle.table.specs.Betting.{live_hands, only_with_chips, first_owing}
use Rattle.table.specs.Opening.{next_dealt_in, hand_code, posted_to, blinds_posted, with_hand, opened_to}
use Rattle.table.specs.Standing.{Standing}
use Rattle.table.specs.declared.table.Table.{Table}
use Rattle.table.proofs.Laws.{owing_few, owing_many}
use Rattle.table.proofs.Reached.{puck_dealt_in, big_blind_dealt_in, big_blind_other}
use Rattle.table.proofs.Standing.{seat_within, next_within, blinds_seated}

-- the turn of some chairs, found clockwise from a seat of n, by a mark
abbrev pub turn_by : List Chair → ℕ → ℕ → ℕ → ℕ
turn_by cs n m s = pick (leb 2 (count_of (want_of Live) cs)) (first_of (want_of (Owing m (leb (count_of (want_of LiveWithChips) cs) 1))) cs (clockwise n s)) 0

pub turn_is : (u : Table) (s : ℕ) → turn_by u.chairs u.sheet.seats u.play.mark s ≡ first_owing u s
unfolding live_hands only_with_chips
turn_is u s =
    let l = count_of (want_of Live) u.chairs in
    let f = first_of (want_of (Owing u.play.mark (leb (count_of (want_of LiveWithChips) u.chairs) 1))) u.chairs (clockwise u.sheet.seats s) in
    ⊎_elim
    (λ (e : leb 2 l ≡ true). ap (λ b. pick b f 0) e ∙ sym (owing_many u s (leb-true 2 l e)))
    (λ (e : leb 2 l ≡ false). ap (λ b. pick b f 0) e ∙ sym (owing_few u s (leb-false 2 l e)))
    (test (leb 2 l))

-- a table where a hand has opened with its puck at seat s, with these chairs and this turn
abbrev pub open_by : Table → ℕ → List Chair → ℕ → Table
open_by t s ds turn =
    with_play (with_chairs t ds) (record { opened = true; puck = s; mark = t.sheet.big; lift = t.sheet.big; turn = turn })

-- a seat that is dealt in is one
dealt_some : (t : Table) (x : ℕ) → is_dealt_in (seat_of t x) ≡ true → 0 < x
dealt_some t zero e = absurd (true≢false (sym e))
dealt_some t (suc k) e = omega arith

-- its chips, once it is dealt in, are no more than all; and what it posts
pub dealt_fits : (cs : List Chair) (s : ℕ) (c d : Chair) → c ≡ chair_at cs s → d ≡ dealt_of c → chips_of cs ≤ 100000000 → d.stack + d.dealt.total ≤ 100000000
dealt_fits cs s c d e f l =
    let g = f ∙ ap dealt_of e in
    omega (arith, ap (λ (x : Chair). x.stack) g, ap (λ (x : Chair). x.dealt.total) g, chips_at cs s, l)

pub posts : {a c p : Chair} (x : Chair) (m : ℕ) → a ≡ x → c ≡ dealt_of a → p ≡ paid_of c m → p ≡ paid_of (dealt_of x) m
posts x m e f g = g ∙ ap (λ (k : Chair). paid_of k m) (f ∙ ap dealt_of e)

module _ (t : Table) (s : ℕ) (h : Standing t) (r : is_seat t.sheet s ≡ true) (q : hand_code t s ≡ 0) where
  pub two_seats : (0 < s) × (s ≤ 10) × (0 < next_dealt_in t s) × (next_dealt_in t s ≤ 10)
  two_seats =
      let l = seat_within t.sheet s r in (
        dealt_some t s (puck_dealt_in t s q),
        omega (arith, l, h.seated.few),
        dealt_some t (next_dealt_in t s) (big_blind_dealt_in t s r q),
        omega (arith, next_within t s l, h.seated.few),
      )

  -- the chairs once the blinds are posted
  pub blinds_chairs : (blinds_posted t s).chairs
      ≡ put_at (put_at (map (sweep_of Deal) t.chairs) s (paid_of (dealt_of (seat_of t s)) t.sheet.small)) (next_dealt_in t s) (paid_of (dealt_of (seat_of t (next_dealt_in t s))) t.sheet.big)
  unfolding posted_to
  blinds_chairs =
      let ds = map (sweep_of Deal) t.chairs in
      let n = next_dealt_in t s in
      let a = map_at (sweep_of Deal) t.chairs s refl in
      let b = put_other ds s n (paid_of (chair_at ds s) t.sheet.small) (λ e. big_blind_other t s h q (sym e)) ∙ map_at (sweep_of Deal) t.chairs n refl in
      ap₂ (λ (c d : Chair). put_at (put_at ds s c) n d) (ap (λ (c : Chair). paid_of c t.sheet.small) a) (ap (λ (d : Chair). paid_of d t.sheet.big) b)

  module _ (next : ℕ) (c d : Chair) (ds : List Chair) (next-is : next ≡ next_dealt_in t s) (c-is : c ≡ paid_of (dealt_of (seat_of t s)) t.sheet.small)
      (d-is : d ≡ paid_of (dealt_of (seat_of t next)) t.sheet.big) (ds-is : ds ≡ put_at (put_at (map (sweep_of Deal) t.chairs) s c) next d) where
    pub chairs-are : ds ≡ (blinds_posted t s).chairs
    chairs-are =
        let m = map (sweep_of Deal) t.chairs in
        ds-is ∙ ap₂ (λ (x y : Chair). put_at (put_at m s x) next y) c-is d-is
        ∙ ap (λ (k : ℕ). put_at (put_at m s (paid_of (dealt_of (seat_of t s)) t.sheet.small)) k (paid_of (dealt_of (seat_of t k)) t.sheet.big)) next-is
        ∙ sym blinds_chairs

    pub seats-are : Seats t.sheet.seats ds
    unfolding posted_to
    seats-are = subst (λ (l : List Chair). Seats t.sheet.seats l) (sym chairs-are) (blinds_seated t s h.seated (seat_within t.sheet s r))

    pub opened_is : {turn : ℕ} → turn ≡ turn_by ds t.sheet.seats t.sheet.big next → open_by t s ds turn ≡ opened_to t s
    unfolding opened_to posted_to
    opened_is turn_same =
        let f = turn_same ∙ ap₂ (λ (l : List Chair) (k : ℕ). turn_by l t.sheet.seats t.sheet.big k) chairs-are next-is ∙ turn_is (with_hand (blinds_posted t s) s) (next_dealt_in t s) in
        ap₂ (λ (l : List Chair) (k : ℕ). open_by t s l k) chairs-are f
