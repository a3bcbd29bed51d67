-- Where every seat that owes then owed before, no more seats owe then, and fewer where one does no longer: by what befalls each chair. For any list of seats.
-- Assumes nothing.
use Prim.Native.Nat.{ℕ, zero, suc, ◌+◌, ◌≤◌, ◌<◌}
use mathlib.Core.Bool.{Bool, true, false, not, true≢false, false≢true}
use mathlib.Core.Path.{◌≡◌, refl, sym, ap, ◌∙◌}
use mathlib.Core.List.{List, [], ◌∷◌}
use mathlib.Core.Logic.{⊎_elim}
use native.Mathlib.Omega.{arith}
use lib.Dec.{eqb, leb, ltb}
use lib.ListN.{length}
use borrow.Author.Tests.{le-leb, leb-true, lt-ltb, ltb-true, not-true}
use Rattle.laws.specs.Tests.{both, one}
use Rattle.laws.proofs.Tests.{both_true, test}
use Rattle.laws.proofs.Sums.{le_or_lt}
use Rattle.chairs.specs.Chairs.{is_live_with_chips, is_owing, round_of, chair_at, put_at, want_of, count_of, seats_from, acted_of, paid_of, held_of}
use Rattle.chairs.specs.declared.Chair.{Chair}
use Rattle.chairs.specs.Who.{Live, LiveWithChips}
use Rattle.table.specs.State.{seat_of}
use Rattle.table.specs.Betting.{live_hands, only_with_chips, owes}
use Rattle.table.specs.declared.table.Table.{Table}
use Rattle.history.specs.Notebook.{ten_seats}
use Rattle.history.specs.Turns.{count_seats}
use Rattle.history.proofs.Turns.{counts}

-- ---- counts of seats
pub count_same : (p q : ℕ → Bool) → ((x : ℕ) → p x ≡ q x) → (xs : List ℕ) → count_seats p xs ≡ count_seats q xs
count_same p q h [] = refl
count_same p q h (x ∷ xs) = omega (arith, ap one (h x), count_same p q h xs)

pub count_most : (p : ℕ → Bool) (k m : ℕ) → count_seats p (seats_from k m) ≤ m
count_most p k zero = omega arith
count_most p k (suc m) = omega (arith, one-most (p (suc k)), count_most p (suc k) m)
  where
    one-most : (b : Bool) → one b ≤ 1
    one-most true = omega arith
    one-most false = omega arith

pub count_none : (p : ℕ → Bool) → ((x : ℕ) → p x ≡ false) → (xs : List ℕ) → count_seats p xs ≡ 0
count_none p h [] = refl
count_none p h (x ∷ xs) = omega (arith, ap one (h x), count_none p h xs)

pub count_nobody : (p : ℕ → Bool) (k m : ℕ) → count_seats p (seats_from k m) ≡ 0 → (x : ℕ) → k < x → x ≤ k + m → p x ≡ false
count_nobody p k zero z x l u = absurd (omega arith)
count_nobody p k (suc m) z x l u =
    ⊎_elim
    (λ (a : x ≤ suc k). let e : x ≡ suc k = omega arith in ap p e ∙ first (p (suc k)) z)
    (λ (a : suc k < x). count_nobody p (suc k) m (omega arith) x a (omega arith))
    (le_or_lt x (suc k))
  where
    first : (b : Bool) → one b + count_seats p (seats_from (suc k) m) ≡ 0 → b ≡ false
    first true e = absurd (omega arith)
    first false e = refl

-- q is passed only where p is
module _ (p q : ℕ → Bool) (under : (x : ℕ) → q x ≡ true → p x ≡ true) where
  one_under : (x : ℕ) → one (q x) ≤ one (p x)
  one_under x = ⊎_elim (λ (e : q x ≡ true). omega (arith, ap one e, ap one (under x e))) (λ (e : q x ≡ false). omega (arith, ap one e)) (test (q x))

  pub count_under : (xs : List ℕ) → count_seats q xs ≤ count_seats p xs
  count_under [] = omega arith
  count_under (x ∷ xs) = omega (arith, one_under x, count_under xs)

  -- and not at seat x, where p is
  pub count_below : (x : ℕ) → p x ≡ true → q x ≡ false → (k m : ℕ) → k < x → x ≤ k + m → count_seats q (seats_from k m) + 1 ≤ count_seats p (seats_from k m)
  count_below x e f k zero l u = absurd (omega arith)
  count_below x e f k (suc m) l u =
      ⊎_elim
      (λ (a : x ≤ suc k). let s : suc k ≡ x = omega arith in omega (arith, ap (λ y. one (p y)) s, ap one e, ap (λ y. one (q y)) s, ap one f, count_under (seats_from (suc k) m)))
      (λ (a : suc k < x). omega (arith, one_under (suc k), count_below x e f (suc k) m a (omega arith)))
      (le_or_lt x (suc k))

-- ---- one chair

-- what befalls chair c makes it d, and no debt comes of it: d is live, live with chips, or has yet to act only where c was and had; and while it has yet to act its
-- round total is the same
pub record Under (c d : Chair) : Type 0 where
  pub live : d.dealt.live ≡ true → c.dealt.live ≡ true
  pub chips : is_live_with_chips d ≡ true → is_live_with_chips c ≡ true
  pub acted : is_live_with_chips d ≡ true → d.dealt.acted ≡ false → c.dealt.acted ≡ false
  pub round : is_live_with_chips d ≡ true → d.dealt.acted ≡ false → round_of d ≡ round_of c

pub under_same : (c : Chair) → Under c c
under_same c = record { live = λ h. h; chips = λ h. h; acted = λ h e. e; round = λ h e. refl }

-- a hand that is given up, or closed
pub under_dead : (c d : Chair) → d.dealt.live ≡ false → Under c d
under_dead c d e =
    let no : is_live_with_chips d ≡ true → ⊥ = λ h. true≢false (sym (both_true d.dealt.live (ltb 0 d.stack) h).0 ∙ e) in
    record {
      live = λ h. absurd (true≢false (sym h ∙ e));
      chips = λ h. absurd (no h);
      acted = λ h a. absurd (no h);
      round = λ h a. absurd (no h);
    }

-- a hand that has acted, and has no more chips than before
pub under_acted : (c : Chair) (m : ℕ) → Under c (acted_of (paid_of c m))
under_acted c m =
    record {
      live = λ h. h;
      chips = λ h.
          let p = both_true c.dealt.live (ltb 0 (paid_of c m).stack) h in
          ap (λ (b : Bool). both b (ltb 0 c.stack)) p.0 ∙ lt-ltb 0 c.stack (omega (arith, ltb-true 0 (paid_of c m).stack p.1));
      acted = λ h a. absurd (true≢false a);
      round = λ h a. absurd (true≢false a);
    }

pub under_checked : (c : Chair) → Under c (acted_of c)
under_checked c = record { live = λ h. h; chips = λ h. h; acted = λ h a. absurd (true≢false a); round = λ h a. absurd (true≢false a) }

pub under_held : (c : Chair) (a b : ℕ) → Under c (held_of c a b)
under_held c a b = record { live = λ h. h; chips = λ h. h; acted = λ h e. e; round = λ h e. refl }

-- one chair is put down
pub under_put : (cs : List Chair) (x : ℕ) (d : Chair) → Under (chair_at cs x) d → (y : ℕ) → Under (chair_at cs y) (chair_at (put_at cs x d) y)
under_put cs zero d h y = under_same (chair_at cs y)
under_put [] (suc k) d h y = under_same (chair_at [] y)
under_put (c ∷ cs) (suc zero) d h zero = under_same (chair_at (c ∷ cs) zero)
under_put (c ∷ cs) (suc zero) d h (suc zero) = h
under_put (c ∷ cs) (suc zero) d h (suc (suc j)) = under_same (chair_at cs (suc j))
under_put (c ∷ cs) (suc (suc k)) d h zero = under_same (chair_at (c ∷ cs) zero)
under_put (c ∷ cs) (suc (suc k)) d h (suc zero) = under_same c
under_put (c ∷ cs) (suc (suc k)) d h (suc (suc j)) = under_put cs (suc k) d h (suc j)

-- `alone` goes from false to true only, as live seats with chips only become fewer: who owes though alone then owed before
alone_under : (b d e : Bool) → (b ≡ true → d ≡ true) → not (both d e) ≡ true → not (both b e) ≡ true
alone_under false d e w h = refl
alone_under true true e w h = h
alone_under true false e w h = absurd (false≢true (w refl))

owing_under : (m : ℕ) (alone later : Bool) (c d : Chair) → (alone ≡ true → later ≡ true) → Under c d → is_owing m later d ≡ true → is_owing m alone c ≡ true
owing_under m alone later c d w u h =
    let free_d = not (both later (eqb (round_of d) m)) in
    let free-c = not (both alone (eqb (round_of c) m)) in
    let p = both_true (is_live_with_chips d) (both (not d.dealt.acted) free_d) h in
    let q = both_true (not d.dealt.acted) free_d p.1 in
    let f : d.dealt.acted ≡ false = not-true d.dealt.acted q.0 in
    ap (λ (b : Bool). both b (both (not c.dealt.acted) free-c)) (u.chips p.0)
    ∙ ap (λ (b : Bool). both (not b) free-c) (u.acted p.0 f)
    ∙ alone_under alone later (eqb (round_of c) m) w (sym (ap (λ (r : ℕ). not (both later (eqb r m))) (u.round p.0 f)) ∙ q.1)

-- ---- a table

-- after an entry: no chair has a new debt, and the mark is the same
pub record Eased (t u : Table) : Type 0 where
  pub chairs : (y : ℕ) → Under (seat_of t y) (seat_of u y)
  pub mark : u.play.mark ≡ t.play.mark
  pub before : length t.chairs ≡ 10
  pub after : length u.chairs ≡ 10

seat_count : (p : Chair → Bool) (t : Table) → length t.chairs ≡ 10 → count_of p t.chairs ≡ count_seats (λ x. p (seat_of t x)) ten_seats
seat_count p t size = counts p (λ x. p (seat_of t x)) 0 10 t.chairs size (λ i. let z : suc i ≡ suc (i + 0) = omega arith in ap (λ x. p (seat_of t x)) z)

module _ (t u : Table) (h : Eased t u) where
  fewer : (p : Chair → Bool) → ((y : ℕ) → p (seat_of u y) ≡ true → p (seat_of t y) ≡ true) → count_of p u.chairs ≤ count_of p t.chairs
  fewer p w = omega (arith, seat_count p t h.before, seat_count p u h.after, count_under (λ x. p (seat_of t x)) (λ x. p (seat_of u x)) w ten_seats)

  -- who owes then owed before
  pub owes_under : (y : ℕ) → owes u (seat_of u y) ≡ true → owes t (seat_of t y) ≡ true
  unfolding owes live_hands only_with_chips
  owes_under y o =
      let lt = count_of (want_of Live) t.chairs in
      let lu = count_of (want_of Live) u.chairs in
      let nt = count_of (want_of LiveWithChips) t.chairs in
      let nu = count_of (want_of LiveWithChips) u.chairs in
      let p = both_true (leb 2 lu) (is_owing u.play.mark (leb nu 1) (seat_of u y)) o in
      let l = fewer (want_of Live) (λ z. (h.chairs z).live) in
      let n = fewer (want_of LiveWithChips) (λ z. (h.chairs z).chips) in
      let same : is_owing t.play.mark (leb nu 1) (seat_of u y) ≡ true = sym (ap (λ (m : ℕ). is_owing m (leb nu 1) (seat_of u y)) h.mark) ∙ p.1 in
      ap (λ (b : Bool). both b (is_owing t.play.mark (leb nt 1) (seat_of t y))) (le-leb 2 lt (omega (arith, leb-true 2 lu p.0)))
      ∙ owing_under t.play.mark (leb nt 1) (leb nu 1) (seat_of t y) (seat_of u y) (λ w. le-leb nu 1 (omega (arith, leb-true nt 1 w))) (h.chairs y) same

-- a hand that has acted does not owe
pub acted_clear : (t : Table) (c : Chair) → c.dealt.acted ≡ true → owes t c ≡ false
unfolding owes
acted_clear t c e =
    let rest = not (both (only_with_chips t) (eqb (round_of c) t.play.mark)) in
    ap (λ (b : Bool). both (leb 2 (live_hands t)) (both (is_live_with_chips c) (both (not b) rest))) e ∙ none (leb 2 (live_hands t)) (is_live_with_chips c)
  where
    none : (a b : Bool) → both a (both b false) ≡ false
    none true true = refl
    none true false = refl
    none false b = refl
