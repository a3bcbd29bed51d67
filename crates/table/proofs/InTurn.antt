-- The turn is 0 exactly when nobody owes, else it is an owing seat (`InTurn`): where the turn is looked for, where a chair changes that did not owe, and
-- after `dead`. Assumes nothing.
use Prim.Native.Nat.{ℕ, zero, suc, ◌≤◌, ◌<◌}
use mathlib.Core.Bool.{Bool, true, false, not, true≢false, false≢true}
use mathlib.Core.Path.{◌≡◌, refl, sym, ap, ◌∙◌}
use mathlib.Core.List.{List, [], ◌∷◌}
use mathlib.Core.Logic.{⊎_elim}
use native.Mathlib.Omega.{arith}
use lib.Dec.{eqb, leb, ltb}
use borrow.Author.Tests.{eqb-true, eqb-false, le-leb, leb-true}
use Rattle.laws.specs.Tests.{both, pick}
use Rattle.laws.proofs.Tests.{both_true, test}
use Rattle.chairs.specs.Chairs.{is_live_with_chips, is_owing, want_of, count_of, no_chair, chair_at, put_at, clockwise, round_of, folded_of}
use Rattle.chairs.specs.declared.Chair.{Chair}
use Rattle.chairs.specs.Who.{Live, LiveWithChips}
use Rattle.chairs.proofs.Clockwise.{put_other, put_reads, count_put, count_less, count_two, first_holds, clock_some}
use Rattle.pots.proofs.Contest.{le_or_lt}
use Rattle.table.specs.State.{seat_of, with_chair, with_turn}
use Rattle.table.specs.Betting.{live_hands, only_with_chips, owes, first_owing, nobody_owes, turn_after, dead_to}
use Rattle.table.specs.Standing.{InTurn}
use Rattle.table.specs.declared.table.Table.{Table}

both_no : (b : Bool) → both b false ≡ false
both_no true = refl
both_no false = refl

-- a hand that is not live does not owe
pub not_live : (t : Table) (c : Chair) → c.dealt.live ≡ false → owes t c ≡ false
unfolding owes
not_live t c e =
    let rest = both (not c.dealt.acted) (not (both (only_with_chips t) (eqb (round_of c) t.play.mark))) in
    ap (λ (l : Bool). both (leb 2 (live_hands t)) (both (both l (ltb 0 c.stack)) rest)) e ∙ both_no (leb 2 (live_hands t))

owes_turn : (u : Table) (k : ℕ) (c : Chair) → owes (with_turn u k) c ≡ owes u c
unfolding owes live_hands only_with_chips
owes_turn u k c = refl

-- where the first owing seat is none, nobody owes; else it owes
pub nobody : (u : Table) (s : ℕ) → ((x : ℕ) → u.sheet.seats < x → seat_of u x ≡ no_chair) → first_owing u s ≡ 0 → (x : ℕ) → owes u (seat_of u x) ≡ false
unfolding first_owing
nobody u s ab z zero = not_live u no_chair refl
nobody u s ab z (suc k) =
    ⊎_elim
    (λ (a : suc k ≤ u.sheet.seats).
    ⊎_elim (λ e. absurd (clock_some (owes u) u.chairs u.sheet.seats s (suc k) (omega arith) a e z)) (λ e. e) (test (owes u (seat_of u (suc k)))))
    (λ (a : u.sheet.seats < suc k). not_live u (seat_of u (suc k)) (ap (λ (c : Chair). c.dealt.live) (ab (suc k) a)))
    (le_or_lt (suc k) u.sheet.seats)

pub somebody : (u : Table) (s : ℕ) → (first_owing u s ≡ 0 → ⊥) → owes u (seat_of u (first_owing u s)) ≡ true
unfolding first_owing
somebody u s h = first_holds (owes u) u.chairs (clockwise u.sheet.seats s) h

-- the turn is looked for
pub from_first : (u : Table) (s : ℕ) → ((x : ℕ) → u.sheet.seats < x → seat_of u x ≡ no_chair) → InTurn (with_turn u (first_owing u s))
from_first u s ab =
    record {
      none = λ z x. owes_turn u (first_owing u s) (seat_of u x) ∙ nobody u s ab z x;
      some = λ z. owes_turn u (first_owing u s) (seat_of u (first_owing u s)) ∙ somebody u s z;
    }

-- the turn is kept, and the same seats owe
pub same_turn : (t u : Table) → u.play.turn ≡ t.play.turn → ((x : ℕ) → owes u (seat_of u x) ≡ owes t (seat_of t x)) → InTurn t → InTurn u
same_turn t u q e h =
    record {
      none = λ z x. e x ∙ h.none (sym q ∙ z) x;
      some = λ z. e u.play.turn ∙ ap (λ k. owes t (seat_of t k)) q ∙ h.some (λ y. z (q ∙ y));
    }

pub one_chair : (t : Table) (x : ℕ) (d : Chair) → d.dealt.live ≡ (seat_of t x).dealt.live → is_live_with_chips d ≡ is_live_with_chips (seat_of t x)
    → ((m : ℕ) (b : Bool) → is_owing m b d ≡ is_owing m b (seat_of t x)) → (y : ℕ) → owes (with_chair t x d) (seat_of (with_chair t x d) y) ≡ owes t (seat_of t y)
unfolding owes live_hands only_with_chips
one_chair t x d e f g y =
    let cs = t.chairs in
    let m = t.play.mark in
    let n = count_of (want_of LiveWithChips) (put_at cs x d) in
    let c = chair_at (put_at cs x d) y in
    ap (λ k. both (leb 2 k) (is_owing m (leb n 1) c)) (count_put (want_of Live) cs x d e)
    ∙ ap (λ k. both (leb 2 (count_of (want_of Live) cs)) (is_owing m (leb k 1) c)) (count_put (want_of LiveWithChips) cs x d f)
    ∙ ap (λ v. both (leb 2 (count_of (want_of Live) cs)) v) (put_reads (is_owing m (leb (count_of (want_of LiveWithChips) cs) 1)) cs x y d (g m (leb (count_of (want_of LiveWithChips) cs) 1)))

-- ---- dead
-- who owes as the only live seat with chips owes as one of several
loosen : (m : ℕ) (b : Bool) (c : Chair) → is_owing m b c ≡ true → is_owing m false c ≡ true
loosen m b c h =
    let a = not c.dealt.acted in
    let e = not (both b (eqb (round_of c) m)) in
    let p = both_true (is_live_with_chips c) (both a e) h in
    ap (λ (l : Bool). both l (both a true)) p.0 ∙ ap (λ (l : Bool). both l true) (both_true a e p.1).0

mono : (m : ℕ) (b d : Bool) (c : Chair) → (d ≡ true → b ≡ true) → is_owing m b c ≡ true → is_owing m d c ≡ true
mono m true true c w h = h
mono m true false c w h = loosen m true c h
mono m false true c w h = absurd (false≢true (w refl))
mono m false false c w h = h

fold_dead : (cs : List Chair) (x : ℕ) → (chair_at (put_at cs x (folded_of (chair_at cs x))) x).dealt.live ≡ false
fold_dead cs zero = refl
fold_dead [] (suc k) = refl
fold_dead (c ∷ cs) (suc zero) = refl
fold_dead (c ∷ cs) (suc (suc k)) = fold_dead cs (suc k)

owed_case : (m lu lt nu nt : ℕ) (c d : Chair) → nu ≤ nt → lu ≤ lt → c ≡ d → both (leb 2 lu) (is_owing m (leb nu 1) c) ≡ true → both (leb 2 lt) (is_owing m (leb nt 1) d) ≡ true
owed_case m lu lt nu nt c d n l e h =
    let p = both_true (leb 2 lu) (is_owing m (leb nu 1) c) h in
    ap (λ (b : Bool). both b (is_owing m (leb nt 1) d)) (le-leb 2 lt (omega (arith, leb-true 2 lu p.0)))
    ∙ mono m (leb nu 1) (leb nt 1) d (λ w. le-leb nu 1 (omega (arith, leb-true nt 1 w))) (sym (ap (λ (z : Chair). is_owing m (leb nu 1) z) e) ∙ p.1)

-- a seat that owed owes still where it is one of several live seats with chips
kept_several : (m lu lt nt : ℕ) (b : Bool) (c d : Chair) → b ≡ false → c ≡ d → leb 2 lu ≡ true → both (leb 2 lt) (is_owing m (leb nt 1) d) ≡ true → both (leb 2 lu) (is_owing m b c) ≡ true
kept_several m lu lt nt b c d f e l h =
    ap (λ (z : Bool). both z (is_owing m b c)) l
    ∙ ap (λ (z : Bool). is_owing m z c) f
    ∙ ap (λ (z : Chair). is_owing m false z) e
    ∙ loosen m (leb nt 1) d (both_true (leb 2 lt) (is_owing m (leb nt 1) d) h).1

owing_rich : (m l : ℕ) (b : Bool) (c : Chair) → both (leb 2 l) (is_owing m b c) ≡ true → is_live_with_chips c ≡ true
owing_rich m l b c h = (both_true (is_live_with_chips c) (both (not c.dealt.acted) (not (both b (eqb (round_of c) m)))) (both_true (leb 2 l) (is_owing m b c) h).1).0

-- the hand at seat x is dead
module _ (t : Table) (x : ℕ) where
  abbrev dead : Table
  dead = with_chair t x (folded_of (seat_of t x))

  fewer : count_of (want_of LiveWithChips) dead.chairs ≤ count_of (want_of LiveWithChips) t.chairs
  fewer = count_less (want_of LiveWithChips) t.chairs x (folded_of (seat_of t x)) refl

  fewer_live : count_of (want_of Live) dead.chairs ≤ count_of (want_of Live) t.chairs
  fewer_live = count_less (want_of Live) t.chairs x (folded_of (seat_of t x)) refl

  -- who owes then owed before
  owed_before : (y : ℕ) → owes dead (seat_of dead y) ≡ true → owes t (seat_of t y) ≡ true
  unfolding owes live_hands only_with_chips
  owed_before y h =
      ⊎_elim
      (λ (q : eqb x y ≡ true).
      let l : (seat_of dead y).dealt.live ≡ false = ap (λ (z : ℕ). (seat_of dead z).dealt.live) (sym (eqb-true x y q)) ∙ fold_dead t.chairs x in
      absurd (true≢false (sym h ∙ not_live dead (seat_of dead y) l)))
      (λ (q : eqb x y ≡ false).
      owed_case t.play.mark _ _ _ _ (seat_of dead y) (seat_of t y) fewer fewer_live (put_other t.chairs x y (folded_of (seat_of t x)) (eqb-false x y q)) h)
      (test (eqb x y))

  -- a seat that owed, another than x, owes still if anyone does
  owes_still : (k y : ℕ) → (x ≡ k → ⊥) → owes t (seat_of t k) ≡ true → owes dead (seat_of dead y) ≡ true → owes dead (seat_of dead k) ≡ true
  unfolding owes live_hands only_with_chips
  owes_still k y n h g =
      let cs = t.chairs in
      let m = t.play.mark in
      let same = put_other cs x k (folded_of (seat_of t x)) n in
      let alone = leb (count_of (want_of LiveWithChips) dead.chairs) 1 in
      let lu = count_of (want_of Live) dead.chairs in
      let lt = count_of (want_of Live) cs in
      let nt = count_of (want_of LiveWithChips) cs in
      let l = (both_true (leb 2 (count_of (want_of Live) dead.chairs)) (is_owing m alone (seat_of dead y)) g).0 in
      ⊎_elim
      (λ (q : alone ≡ true).
      let rk : is_live_with_chips (seat_of dead k) ≡ true = ap (λ (z : Chair). is_live_with_chips z) same ∙ owing_rich m lt (leb nt 1) (seat_of t k) h in
      let ry : is_live_with_chips (seat_of dead y) ≡ true = owing_rich m lu alone (seat_of dead y) g in
      let e = count_two (want_of LiveWithChips) refl dead.chairs k y rk ry (leb-true (count_of (want_of LiveWithChips) dead.chairs) 1 q) in
      ap (λ (z : ℕ). both (leb 2 (count_of (want_of Live) dead.chairs)) (is_owing m alone (seat_of dead z))) e ∙ g)
      (λ (q : alone ≡ false). kept_several m lu lt nt alone (seat_of dead k) (seat_of t k) q same l h)
      (test alone)

  pub dead_turn : ((s : ℕ) → t.sheet.seats < s → seat_of dead s ≡ no_chair) → InTurn t → InTurn (dead_to t x)
  unfolding dead_to turn_after
  dead_turn ab h = go (eqb t.play.turn x) refl
    where
      ended : (d : Bool) → nobody_owes dead ≡ d → (t.play.turn ≡ x → ⊥) → InTurn (with_turn dead (pick d 0 t.play.turn))
      ended true q n =
          record {
            none = λ z y. owes_turn dead 0 (seat_of dead y) ∙ nobody dead 0 ab (eqb-true (first_owing dead 0) 0 q) y;
            some = λ z. absurd (z refl);
          }
      ended false q n =
          record {
            none = λ z y. owes_turn dead t.play.turn (seat_of dead y) ∙ ⊎_elim (λ e. absurd (true≢false (sym (owed_before y e) ∙ h.none z y))) (λ e. e) (test (owes dead (seat_of dead y)));
            some = λ z. owes_turn dead t.play.turn (seat_of dead t.play.turn)
                ∙ owes_still t.play.turn (first_owing dead 0) (λ e. n (sym e)) (h.some z) (somebody dead 0 (eqb-false (first_owing dead 0) 0 q));
          }

      go : (b : Bool) → eqb t.play.turn x ≡ b → InTurn (with_turn dead (pick b (first_owing dead x) (pick (nobody_owes dead) 0 t.play.turn)))
      go true q = from_first dead x ab
      go false q = ended (nobody_owes dead) refl (eqb-false t.play.turn x q)
