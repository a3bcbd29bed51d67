-- The first owing seat is 0 exactly where no seat of the table owes. Assumes nothing.
use Prim.Native.Nat.{ℕ, zero, suc, ◌+◌, ◌-◌, ◌≤◌, ◌<◌}
use mathlib.Core.Bool.{Bool, true, false, not, true≢false, false≢true}
use mathlib.Core.Path.{◌≡◌, refl, sym, ap, ◌∙◌}
use mathlib.Core.List.{List, append-nil}
use mathlib.Core.Logic.{⊎_elim}
use native.Mathlib.Omega.{arith}
use lib.Dec.{eqb, leb, ltb}
use borrow.Author.Tests.{leb-true, le-leb, ltb-true, lt-ltb, eq-eqb, eqb-true, eqb-false, ne_eqb, not-true}
use Rattle.laws.specs.Tests.{both, pick}
use Rattle.laws.proofs.Tests.{both_true, test}
use Rattle.chairs.specs.Chairs.{chair_at, first_of, seats_from, clockwise, count_of, want_of, round_of}
use Rattle.chairs.specs.declared.Chair.{Chair}
use Rattle.chairs.specs.Who.{LiveWithChips}
use Rattle.table.specs.Betting.{live_hands, only_with_chips, owes, first_owing}
use Rattle.table.specs.State.{seat_of}
use Rattle.table.specs.declared.table.Table.{Table}
use Rattle.mission.specs.Allowed.{Owes, SomeoneOwes}

-- the first of some seats, where there is one
record Found (p : Chair → Bool) (cs : List Chair) (k m : ℕ) : Type 0 where
  seat : ℕ
  first : k < seat
  last : seat ≤ k + m
  is : p (chair_at cs seat) ≡ true

module _ (p : Chair → Bool) (cs : List Chair) where
  found : (k m : ℕ) → (first_of p cs (seats_from k m) ≡ 0 → ⊥) → Found p cs k m
  found k zero h = absurd (h refl)
  found k (suc m) h = go (p (chair_at cs (suc k))) refl h (found (suc k) m)
    where
      go : (b : Bool) → p (chair_at cs (suc k)) ≡ b → (pick b (suc k) (first_of p cs (seats_from (suc k) m)) ≡ 0 → ⊥)
          → ((first_of p cs (seats_from (suc k) m) ≡ 0 → ⊥) → Found p cs (suc k) m) → Found p cs k (suc m)
      go true e q r = record { seat = suc k; first = omega arith; last = omega arith; is = e }
      go false e q r = let f = r q in record { seat = f.seat; first = omega (arith, f.first); last = omega (arith, f.last); is = f.is }

  first_not_none : (k m x : ℕ) → k < x → x ≤ k + m → p (chair_at cs x) ≡ true → first_of p cs (seats_from k m) ≡ 0 → ⊥
  first_not_none k zero x a b e z = omega arith
  first_not_none k (suc m) x a b e z = go (p (chair_at cs (suc k))) refl z (λ a' b'. first_not_none (suc k) m x a' b' e)
    where
      go : (b : Bool) → p (chair_at cs (suc k)) ≡ b → pick b (suc k) (first_of p cs (seats_from (suc k) m)) ≡ 0
          → (suc k < x → x ≤ suc k + m → first_of p cs (seats_from (suc k) m) ≡ 0 → ⊥) → ⊥
      go true f q r = omega arith
      go false f q r =
          let other : (suc k ≡ x → ⊥) = λ s. false≢true (sym f ∙ ap (λ y. p (chair_at cs y)) s ∙ e) in
          r (omega (arith, other)) (omega arith) q

all_seats : (n : ℕ) → clockwise n 0 ≡ seats_from 0 n
all_seats n = let e : n - 0 ≡ n = omega arith in append-nil (seats_from 0 (n - 0)) ∙ ap (seats_from 0) e

-- a chair owes by the code's test exactly where it owes by the paper
pub owes_is : (t : Table) (c : Chair) → owes t c ≡ true → Owes t c
unfolding owes only_with_chips
owes_is t c h =
    let rich = both c.dealt.live (ltb 0 c.stack) in
    let level = both (leb (count_of (want_of LiveWithChips) t.chairs) 1) (eqb (round_of c) t.play.mark) in
    let p = both_true (leb 2 (live_hands t)) (both rich (both (not c.dealt.acted) (not level))) h in
    let q = both_true rich (both (not c.dealt.acted) (not level)) p.1 in
    let r = both_true c.dealt.live (ltb 0 c.stack) q.0 in
    let s = both_true (not c.dealt.acted) (not level) q.1 in
    let no : level ≡ false = not-true level s.1 in
    record {
      live = r.0;
      chips = ltb-true 0 c.stack r.1;
      waits = not-true c.dealt.acted s.0;
      two = leb-true 2 (live_hands t) p.0;
      unless = λ a m. true≢false (sym (rw (le-leb (count_of (want_of LiveWithChips) t.chairs) 1 a, eq-eqb (round_of c) t.play.mark m) refl) ∙ no);
    }

pub is_owing : (t : Table) (c : Chair) → Owes t c → owes t c ≡ true
unfolding owes only_with_chips
is_owing t c o = rw (le-leb 2 (live_hands t) o.two, o.live, lt-ltb 0 c.stack o.chips, o.waits) (go (leb (count_of (want_of LiveWithChips) t.chairs) 1) refl (eqb (round_of c) t.play.mark) refl)
  where
    go : (a : Bool) → leb (count_of (want_of LiveWithChips) t.chairs) 1 ≡ a → (b : Bool) → eqb (round_of c) t.play.mark ≡ b → not (both a b) ≡ true
    go true e true f = absurd (o.unless (leb-true (count_of (want_of LiveWithChips) t.chairs) 1 e) (eqb-true (round_of c) t.play.mark f))
    go true e false f = refl
    go false e b f = refl

pub someone : (t : Table) → eqb (first_owing t 0) 0 ≡ false → SomeoneOwes t
unfolding first_owing
someone t h =
    let f = found (owes t) t.chairs 0 t.sheet.seats (λ z. eqb-false _ 0 h (ap (first_of (owes t) t.chairs) (all_seats t.sheet.seats) ∙ z)) in
    record { seat = f.seat; first = f.first; last = omega (arith, f.last); owes = owes_is t (seat_of t f.seat) f.is }

pub nobody : (t : Table) → (SomeoneOwes t → ⊥) → eqb (first_owing t 0) 0 ≡ true
nobody t h = ⊎_elim (λ e. e) (λ e. absurd (h (someone t e))) (test (eqb (first_owing t 0) 0))

pub not_nobody : (t : Table) → SomeoneOwes t → eqb (first_owing t 0) 0 ≡ false
unfolding first_owing
not_nobody t o =
    ne_eqb _ 0 (λ z. first_not_none (owes t) t.chairs 0 t.sheet.seats o.seat o.first (omega (arith, o.last)) (is_owing t (seat_of t o.seat) o.owes)
    (sym (ap (first_of (owes t) t.chairs) (all_seats t.sheet.seats)) ∙ z))
