-- Demand 2, second half, the entry `hand`: who is dealt in, what each seat posts, and what the hand opens with. Assumes nothing.
use Prim.Native.Nat.{ℕ, ◌+◌, ◌-◌, ◌<◌, min}
use mathlib.Core.Bool.{Bool, true, false}
use mathlib.Core.Path.{◌≡◌, refl, sym, ap, ◌∙◌, subst}
use mathlib.Core.List.{List, map}
use mathlib.Core.Logic.{⊎_elim}
use native.Mathlib.Omega.{arith}
use lib.Dec.{eqb, ltb}
use borrow.Author.Tests.{eqb-true, eqb-false, lt-ltb, ltb-true}
use Rattle.laws.specs.Tests.{pick}
use Rattle.laws.proofs.Tests.{test}
use Rattle.paper.specs.Paper.{in_kind}
use Rattle.paper.specs.declared.Entry.TheVariants.{Hand}
use Rattle.chairs.specs.Chairs.{chair_at, put_at, is_dealt_in, paid_of, dealt_of}
use Rattle.chairs.specs.declared.Chair.{Chair}
use Rattle.chairs.proofs.Clockwise.{put_other}
use Rattle.chairs.proofs.Over.{map_at}
use Rattle.table.specs.State.{seat_of, with_taken}
use Rattle.table.specs.Betting.{live_hands, only_with_chips, owes, first_owing}
use Rattle.table.specs.Opening.{next_dealt_in, posted_to, opened_to}
use Rattle.table.specs.Take.{kind_code}
use Rattle.table.specs.Standing.{Standing}
use Rattle.table.specs.declared.table.Table.{Table}
use Rattle.table.proofs.ChairsOk.{ok_at}
use Rattle.table.proofs.Reached.{puck_dealt_in, big_blind_dealt_in, big_blind_other}
use Rattle.history.proofs.Kept.{put_seat}
use Rattle.mission.specs.Does.{Posts, DealtIn, DoesHand}

-- ---- one chair
module _ (c : Chair) where
  dealt_in : (b : ℕ) → DealtIn c (paid_of (dealt_of c) b) (min b c.stack)
  dealt_in b =
      record {
        sitting = refl;
        stack = rests c.stack b;
        dealt = λ p. let e = lt-ltb 0 c.stack p in (ap (λ (d : Bool). pick d c.sitting 0) e, e);
        out = λ z. let e : is_dealt_in c ≡ false = ap (λ (v : ℕ). ltb 0 v) z in (ap (λ (d : Bool). pick d c.sitting 0) e, e);
        total = first (min b c.stack);
        round = only (min b c.stack);
        acted = refl;
        right = refl;
        hole = refl;
      }
    where
      rests : (v m : ℕ) → v - min m v + min m v ≡ v
      rests v m = omega arith

      first : (v : ℕ) → 0 + v ≡ v
      first v = omega arith

      only : (v : ℕ) → 0 + v - 0 ≡ v
      only v = omega arith

  dealt_none : DealtIn c (dealt_of c) 0
  dealt_none =
      record {
        sitting = refl;
        stack = omega arith;
        dealt = λ p. let e = lt-ltb 0 c.stack p in (ap (λ (d : Bool). pick d c.sitting 0) e, e);
        out = λ z. let e : is_dealt_in c ≡ false = ap (λ (v : ℕ). ltb 0 v) z in (ap (λ (d : Bool). pick d c.sitting 0) e, e);
        total = refl;
        round = refl;
        acted = refl;
        right = refl;
        hole = refl;
      }

module _ (t : Table) (n p : ℕ) (st : Standing t) (r : in_kind t.sheet (Hand p) ≡ true) (q : kind_code t (Hand p) ≡ 0) where
  abbrev big : ℕ
  big = next_dealt_in t p

  abbrev cs0 : List Chair
  cs0 = map dealt_of t.chairs

  abbrev cs1 : List Chair
  cs1 = put_at cs0 p (paid_of (chair_at cs0 p) t.sheet.small)

  abbrev cs2 : List Chair
  cs2 = put_at cs1 big (paid_of (chair_at cs1 big) t.sheet.big)

  at0 : (y : ℕ) → chair_at cs0 y ≡ dealt_of (seat_of t y)
  at0 y = map_at dealt_of t.chairs y refl

  -- a seat with chips has a sitter
  seated : (y : ℕ) → is_dealt_in (seat_of t y) ≡ true → 0 < (chair_at cs0 y).sitting
  seated y d =
      let o = ok_at t.chairs y st.chairs in
      let v = ltb-true 0 (seat_of t y).stack d in
      let some : ((seat_of t y).sitting ≡ 0 → ⊥) = λ z. omega (arith, v, o.empty z) in
      omega (arith, ap (λ (c : Chair). c.sitting) (at0 y), some)

  apart : p ≡ big → ⊥
  apart e = big_blind_other t p st q (sym e)

  at_big : chair_at cs2 big ≡ paid_of (dealt_of (seat_of t big)) t.sheet.big
  at_big =
      let was : chair_at cs1 big ≡ dealt_of (seat_of t big) = put_other cs0 p big _ apart ∙ at0 big in
      put_seat cs1 big (paid_of (chair_at cs1 big) t.sheet.big) (omega (arith, ap (λ (c : Chair). c.sitting) (put_other cs0 p big (paid_of (chair_at cs0 p) t.sheet.small) apart), seated big (big_blind_dealt_in t p r q)))
      ∙ ap (λ (c : Chair). paid_of c t.sheet.big) was

  at_puck : chair_at cs2 p ≡ paid_of (dealt_of (seat_of t p)) t.sheet.small
  at_puck =
      put_other cs1 big p (paid_of (chair_at cs1 big) t.sheet.big) (λ e. apart (sym e))
      ∙ put_seat cs0 p (paid_of (chair_at cs0 p) t.sheet.small) (seated p (puck_dealt_in t p q))
      ∙ ap (λ (c : Chair). paid_of c t.sheet.small) (at0 p)

  at_other : (y : ℕ) → (p ≡ y → ⊥) → (big ≡ y → ⊥) → chair_at cs2 y ≡ dealt_of (seat_of t y)
  at_other y a b = put_other cs1 big y (paid_of (chair_at cs1 big) t.sheet.big) b ∙ put_other cs0 p y (paid_of (chair_at cs0 p) t.sheet.small) a ∙ at0 y

  abbrev Posted : ℕ → Type 0
  Posted y = (m : ℕ) × Posts t p big y m × DealtIn (seat_of t y) (chair_at cs2 y) m

  posted : (y : ℕ) → Posted y
  posted y =
      ⊎_elim
      (λ (e : eqb big y ≡ true). subst Posted (eqb-true big y e) by-big)
      (λ (e : eqb big y ≡ false).
      ⊎_elim (λ (d : eqb p y ≡ true). subst Posted (eqb-true p y d) by-puck) (λ (d : eqb p y ≡ false). by-none y (eqb-false p y d) (eqb-false big y e)) (test (eqb p y)))
      (test (eqb big y))
    where
      by-big : Posted big
      by-big = (
        min t.sheet.big (seat_of t big).stack,
        record { puck = λ e. absurd (apart (sym e)); next = λ e. refl; none = λ a b. absurd (b refl) },
        subst (λ (c : Chair). DealtIn (seat_of t big) c (min t.sheet.big (seat_of t big).stack)) (sym at_big) (dealt_in (seat_of t big) t.sheet.big),
      )

      by-puck : Posted p
      by-puck = (
        min t.sheet.small (seat_of t p).stack,
        record { puck = λ e. refl; next = λ e. absurd (apart e); none = λ a b. absurd (a refl) },
        subst (λ (c : Chair). DealtIn (seat_of t p) c (min t.sheet.small (seat_of t p).stack)) (sym at_puck) (dealt_in (seat_of t p) t.sheet.small),
      )

      by-none : (y : ℕ) → (p ≡ y → ⊥) → (big ≡ y → ⊥) → Posted y
      by-none y a b = (
        0,
        record { puck = λ e. absurd (a (sym e)); next = λ e. absurd (b (sym e)); none = λ c d. refl },
        subst (λ (c : Chair). DealtIn (seat_of t y) c 0) (sym (at_other y a b)) (dealt_none (seat_of t y)),
      )

  pub does_hand : DoesHand t p (with_taken (opened_to t p) n)
  unfolding opened_to posted_to first_owing owes live_hands only_with_chips
  does_hand =
      record {
        blinds = posted;
        opened = refl;
        puck = refl;
        mark = refl;
        lift = refl;
        turn = refl;
        sheet = refl;
        sittings = refl;
        board = refl;
      }
