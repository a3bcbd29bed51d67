-- The table's row for a pattern names the order and the class of any five ranks of that pattern, from high to low: it does for one list of each pattern,
-- by a test that antt computes, and every other is carried over from that one. Assumes nothing.
use mathlib.Core.Path.{◌≡◌, refl, sym, ap, ap₂, ◌∙◌}
use mathlib.Core.Bool.{Bool, true, false, cond, ◌||◌}
use mathlib.Core.Logic.{⊎_elim}
use mathlib.Core.List.{List, [], ◌∷◌, map}
use Prim.Native.Nat.{ℕ, zero, suc, ◌+◌, ◌-◌, ◌/◌, ◌%◌, ◌<◌, ◌≤◌}
use native.Mathlib.Omega.{arith}
use native.Mathlib.Decide.{dec_le, dec_lt}
use lib.Dec.{eqb, ltb, leb}
use lib.ListN.{length, get_or}
use borrow.Author.Tests.{eqb-true, ne_eqb, le-leb, lt-leb, le-ltb, eqb-false}
use Rattle.laws.specs.Tests.{both, pick}
use Rattle.laws.specs.Lists.{All}
use Rattle.laws.proofs.Tests.{test, both_true}
use Rattle.cards.specs.Cards.{same_list, before, put, in_order, ordered, is_wheel, lowered, in_row}
use Rattle.cards.specs.Hands.{hand, first, most_held, next_held, holdings, class_of}
use Rattle.cards.specs.Patterns.{neighbours, binary, rows, ranks_at, class_at, class_by, odd_hand, hand_at}
use Rattle.cards.specs.declared.Hand.{Hand}
use Rattle.cards.proofs.Falls.{Falling}
use Rattle.cards.proofs.Scaled.{carried_at, carried_ordered, same_holdings}
use Rattle.laws.proofs.Members.{same_list_law}
use Rattle.laws.proofs.Five.{five_list}

-- the ranks of a pattern without gaps, the last of them 1
unfoldable pub dense : List Bool → List ℕ
dense [] = 1 ∷ []
dense (b ∷ bs) = pick b (get_or (dense bs) 0 0) (suc (get_or (dense bs) 0 0)) ∷ dense bs

abbrev AtMost : ℕ → List ℕ → Type 0
AtMost h l = All (λ k. k ≤ h) l

most_up : (h k : ℕ) (l : List ℕ) → h ≤ k → AtMost h l → AtMost k l
most_up h k [] le a = tt
most_up h k (x ∷ l) le a = (omega (arith, a.0), most_up h k l le a.1)

pick_up : (b : Bool) (n : ℕ) → n ≤ pick b n (suc n)
pick_up true n = omega arith
pick_up false n = omega arith

dense_top : (bs : List Bool) → AtMost (get_or (dense bs) 0 0) (dense bs)
unfolding dense
dense_top [] = (omega arith, tt)
dense_top (b ∷ bs) = (omega arith, most_up _ _ (dense bs) (pick_up b (get_or (dense bs) 0 0)) (dense_top bs))

abbrev pub Strict : (ℕ → ℕ) → Type 0
Strict f = (x y : ℕ) → x < y → f x < f y

-- f up to h, and from x on behind it
extend : (ℕ → ℕ) → ℕ → ℕ → ℕ → ℕ
extend f h x k = pick (leb k h) (f k) (x + (k - suc h))

module _ (f : ℕ → ℕ) (s : Strict f) (h x : ℕ) (lt : f h < x) where
  extend_low : (k : ℕ) → k ≤ h → extend f h x k ≡ f k
  unfolding extend
  extend_low k le = ap (λ (b : Bool). pick b (f k) (x + (k - suc h))) (le-leb k h le)

  extend_high : (k : ℕ) → h < k → extend f h x k ≡ x + (k - suc h)
  unfolding extend
  extend_high k le = ap (λ (b : Bool). pick b (f k) (x + (k - suc h))) (lt-leb k h le)

  up_to : (k : ℕ) → k ≤ h → f k ≤ f h
  up_to k le = elim (dec_lt k h) [ yes a ↦ omega (arith, s k h a) | no a ↦ omega (arith, ap f (same k le a)) ]
    where
      same : (k : ℕ) → k ≤ h → (k < h → ⊥) → k ≡ h
      same k p q = omega arith

  extend_strict : Strict (extend f h x)
  extend_strict a b ab = elim (dec_le b h) [
    | yes p ↦ omega (arith, extend_low a (omega arith), extend_low b p, s a b ab)
    | no p ↦ elim (dec_le a h) [
      | yes q ↦ omega (arith, extend_low a q, extend_high b (omega arith), up_to a q, lt)
      | no q ↦ omega (arith, extend_high a (omega arith), extend_high b (omega arith), ab, q)
    ]
  ]

  extend_same : (l : List ℕ) → AtMost h l → map (extend f h x) l ≡ map f l
  extend_same [] a = refl
  extend_same (k ∷ l) a = ap₂ ◌∷◌ (extend_low k a.0) (extend_same l a.1)

  extend_next : extend f h x (suc h) ≡ x
  extend_next = omega (arith, extend_high (suc h) (omega arith))

-- a list is carried over from another, by a function that keeps the order
pub record Carries (from to : List ℕ) : Type 0 where
  pub by : ℕ → ℕ
  pub none_stays : by 0 ≡ 0
  pub strict : Strict by
  pub gives : map by from ≡ to

-- a rank more, the same or a higher one
carry_same : (x y : ℕ) (l : List ℕ) (ds : List ℕ) → x ≡ y → Carries ds (y ∷ l) → Carries (get_or ds 0 0 ∷ ds) (x ∷ y ∷ l)
carry_same x y l ds e c = record {
  by = c.by;
  none_stays = c.none_stays;
  strict = c.strict;
  gives = ap₂ ◌∷◌ (sym (carried_at c.by c.none_stays c.strict ds 0) ∙ ap (λ (m : List ℕ). get_or m 0 0) c.gives ∙ sym e) c.gives;
}

carry_higher : (x y : ℕ) (l : List ℕ) (ds : List ℕ) → y < x → AtMost (get_or ds 0 0) ds → Carries ds (y ∷ l) → Carries (suc (get_or ds 0 0) ∷ ds) (x ∷ y ∷ l)
carry_higher x y l ds h a c =
    let top : c.by (get_or ds 0 0) ≡ y = sym (carried_at c.by c.none_stays c.strict ds 0) ∙ ap (λ (m : List ℕ). get_or m 0 0) c.gives in
    let lt : c.by (get_or ds 0 0) < x = omega (arith, top, h) in
    record {
      by = extend c.by (get_or ds 0 0) x;
      none_stays = extend_low c.by c.strict (get_or ds 0 0) x lt 0 (omega arith) ∙ c.none_stays;
      strict = extend_strict c.by c.strict (get_or ds 0 0) x lt;
      gives = ap₂ ◌∷◌ (extend_next c.by c.strict (get_or ds 0 0) x lt) (extend_same c.by c.strict (get_or ds 0 0) x lt ds a ∙ c.gives);
    }

-- ranks that fall are carried over from those of their pattern without gaps
pub carry : (x : ℕ) (l : List ℕ) → Falling (x ∷ l) → All (λ y. 0 < y) (x ∷ l) → Carries (dense (neighbours (x ∷ l))) (x ∷ l)
unfolding dense neighbours
carry x [] f a = record {
  by = extend (λ k. k) 0 x;
  none_stays = extend_low (λ k. k) (λ p q h. h) 0 x a.0 0 (omega arith);
  strict = extend_strict (λ k. k) (λ p q h. h) 0 x a.0;
  gives = ap (λ (n : ℕ). n ∷ []) (extend_next (λ k. k) (λ p q h. h) 0 x a.0);
}
carry x (y ∷ l) f a = go (eqb x y) refl (carry y l f.1 a.1) (dense_top (neighbours (y ∷ l)))
  where
    go : (b : Bool) → eqb x y ≡ b → Carries (dense (neighbours (y ∷ l))) (y ∷ l) → AtMost (get_or (dense (neighbours (y ∷ l))) 0 0) (dense (neighbours (y ∷ l)))
        → Carries (pick (eqb x y) (get_or (dense (neighbours (y ∷ l))) 0 0) (suc (get_or (dense (neighbours (y ∷ l))) 0 0)) ∷ dense (neighbours (y ∷ l))) (x ∷ y ∷ l)
    go true e c t = rw e (carry_same x y l (dense (neighbours (y ∷ l))) (eqb-true x y e) c)
    go false e c t = rw e (carry_higher x y l (dense (neighbours (y ∷ l))) (omega (arith, f.0, eqb-false x y e)) t c)

-- a test of every list of k tests
unfoldable pub all_of : ℕ → (List Bool → Bool) → Bool
all_of zero g = g []
all_of (suc k) g = both (all_of k (λ bs. g (true ∷ bs))) (all_of k (λ bs. g (false ∷ bs)))

pub each_of : (k : ℕ) (g : List Bool → Bool) → all_of k g ≡ true → (bs : List Bool) → length bs ≡ k → g bs ≡ true
unfolding all_of
each_of zero g e [] n = e
each_of zero g e (b ∷ bs) n = absurd (omega arith)
each_of (suc k) g e [] n = absurd (omega arith)
each_of (suc k) g e (true ∷ bs) n = each_of k (λ m. g (true ∷ m)) (both_true (all_of k (λ m. g (true ∷ m))) (all_of k (λ m. g (false ∷ m))) e).0 bs (omega arith)
each_of (suc k) g e (false ∷ bs) n = each_of k (λ m. g (false ∷ m)) (both_true (all_of k (λ m. g (true ∷ m))) (all_of k (λ m. g (false ∷ m))) e).1 bs (omega arith)

-- the row of a pattern
abbrev row_at : List Bool → ℕ
row_at bs = get_or rows (binary bs) 0

-- a row is right: the order, the class, and that two are the same unless no two are
right_row : List Bool → Bool
right_row bs =
    both (same_list (ranks_at (row_at bs) (dense bs)) (ordered (dense bs)))
    (both (eqb (class_at (row_at bs)) (class_of false false (most_held (dense bs)) (next_held (dense bs))))
    (eqb (binary bs) 0 || eqb (get_or (ordered (dense bs)) 0 0) (get_or (ordered (dense bs)) 1 0)))

rows_right : all_of 4 right_row ≡ true
unfolding all_of right_row dense binary ranks_at before put in_order ordered class_of
rows_right = refl

pub neighbours_long : (x : ℕ) (l : List ℕ) → length (neighbours (x ∷ l)) ≡ length l
unfolding neighbours
neighbours_long x [] = refl
neighbours_long x (y ∷ l) = let ih = neighbours_long y l in omega (arith, ih)

high : (n x : ℕ) → x ≡ pick (ltb (suc (suc (suc (suc (suc n))))) 3) (suc (suc (suc (suc (suc n))))) x
high n x = sym (ap (λ (b : Bool). pick b (suc (suc (suc (suc (suc n))))) x) (le-ltb (suc (suc (suc (suc (suc n))))) 3 (omega arith)))

-- the class, straights and flushes aside, tells the class
first_by : (s f x y : Bool) (l : List Bool)
    → first (both s f ∷ x ∷ y ∷ f ∷ s ∷ l) ≡ class_by s f (first (false ∷ x ∷ y ∷ false ∷ false ∷ l))
unfolding class_by
first_by true true x y l = refl
first_by true false true y l = refl
first_by true false false true l = refl
first_by true false false false l = high (first l) 4
first_by false true true y l = refl
first_by false true false true l = refl
first_by false true false false l = high (first l) 3
first_by false false true y l = refl
first_by false false false true l = refl
first_by false false false false l = high (first l) (suc (suc (suc (suc (suc (first l))))))

class_by_law : (s f : Bool) (m n : ℕ) → class_of s f m n ≡ class_by s f (class_of false false m n)
unfolding class_of
class_by_law s f m n = first_by s f (eqb m 4) (both (eqb m 3) (eqb n 2)) (eqb m 3 ∷ both (eqb m 2) (eqb n 2) ∷ eqb m 2 ∷ [])

-- ranks of which the first two are the same are not in a row, and not the ace with the four lowest
not_row : (foot u v : ℕ) (m : List ℕ) → foot + 3 < 14 → u ≡ v → (lowered foot (u ∷ v ∷ m) ≡ u ∷ v ∷ m) × (in_row (u ∷ v ∷ m) ≡ false)
unfolding lowered is_wheel in_row
not_row foot u v m low e =
    let no : is_wheel foot (u ∷ v ∷ m) ≡ false = ⊎_elim
    (λ (w : is_wheel foot (u ∷ v ∷ m) ≡ true). let s = same_list_law (u ∷ v ∷ m) (14 ∷ (foot + 3) ∷ (foot + 2) ∷ (foot + 1) ∷ foot ∷ []) w in absurd (omega (arith, ap (λ (k : List ℕ). get_or k 0 0) s, ap (λ (k : List ℕ). get_or k 1 0) s)))
    (λ (w : is_wheel foot (u ∷ v ∷ m) ≡ false). w)
    (test (is_wheel foot (u ∷ v ∷ m))) in (
      ap (λ (b : Bool). cond b ((foot + 3) ∷ (foot + 2) ∷ (foot + 1) ∷ foot ∷ (foot - 1) ∷ []) (u ∷ v ∷ m)) no,
      ap (λ (b : Bool). both b (in_row (v ∷ m))) (ne_eqb u (v + 1) (λ k. omega arith)),
    )

module _ (x : ℕ) (l : List ℕ) (four : length l ≡ 4) (falls : Falling (x ∷ l)) (some : All (λ y. 0 < y) (x ∷ l)) where
  abbrev bs : List Bool
  bs = neighbours (x ∷ l)

  from : Carries (dense bs) (x ∷ l)
  from = carry x l falls some

  told : (same_list (ranks_at (row_at bs) (dense bs)) (ordered (dense bs)) ≡ true)
      × (eqb (class_at (row_at bs)) (class_of false false (most_held (dense bs)) (next_held (dense bs))) ≡ true)
      × ((eqb (binary bs) 0 || eqb (get_or (ordered (dense bs)) 0 0) (get_or (ordered (dense bs)) 1 0)) ≡ true)
  unfolding right_row
  told =
      let p = both_true _ _ (each_of 4 right_row rows_right bs (neighbours_long x l ∙ four)) in
      let q = both_true _ _ p.1 in
      (p.0, q.0, q.1)

  ordered_from : ordered (x ∷ l) ≡ map from.by (ordered (dense bs))
  ordered_from = ap ordered (sym from.gives) ∙ carried_ordered from.by from.none_stays from.strict (dense bs)

  ranks_carried : (f : ℕ → ℕ) → f 0 ≡ 0 → ((a b : ℕ) → a < b → f a < f b) → (n : ℕ) (q : List ℕ) → ranks_at n (map f q) ≡ map f (ranks_at n q)
  unfolding ranks_at
  ranks_carried f z s n q =
      let at : (k : ℕ) → get_or (map f q) k 0 ≡ f (get_or q k 0) = carried_at f z s q in
      rw (at (n / 65536 % 8), at (n / 4096 % 8), at (n / 256 % 8), at (n / 16 % 8), at (n % 8))

  -- the ranks as they are compared
  pub order_row : ordered (x ∷ l) ≡ ranks_at (row_at bs) (x ∷ l)
  order_row =
      ordered_from
      ∙ ap (map from.by) (sym (same_list_law (ranks_at (row_at bs) (dense bs)) (ordered (dense bs)) told.0))
      ∙ sym (ranks_carried from.by from.none_stays from.strict (row_at bs) (dense bs))
      ∙ ap (ranks_at (row_at bs)) from.gives

  held_from : holdings (x ∷ l) ≡ holdings (dense bs)
  held_from = ap holdings (sym from.gives) ∙ same_holdings from.by from.none_stays from.strict (dense bs)

  pub class_row : (s f : Bool) → class_of s f (most_held (x ∷ l)) (next_held (x ∷ l)) ≡ class_by s f (class_at (row_at bs))
  class_row s f =
      ap (λ (hs : List ℕ). class_of s f (get_or hs 0 0) (get_or hs (get_or hs 0 0) 0)) held_from
      ∙ class_by_law s f (most_held (dense bs)) (next_held (dense bs))
      ∙ ap (class_by s f) (sym (eqb-true _ _ told.1))

  -- where not all are different, the first two that are compared are the same
  two_same : (binary bs ≡ 0 → ⊥) → get_or (ordered (x ∷ l)) 0 0 ≡ get_or (ordered (x ∷ l)) 1 0
  two_same h =
      let e : get_or (ordered (dense bs)) 0 0 ≡ get_or (ordered (dense bs)) 1 0 =
      eqb-true _ _ (ap (λ (b : Bool). b || eqb (get_or (ordered (dense bs)) 0 0) (get_or (ordered (dense bs)) 1 0)) (sym (ne_eqb (binary bs) 0 h)) ∙ told.2) in
      let at : (k : ℕ) → get_or (map from.by (ordered (dense bs))) k 0 ≡ from.by (get_or (ordered (dense bs)) k 0) = carried_at from.by from.none_stays from.strict (ordered (dense bs)) in
      ap (λ (m : List ℕ). get_or m 0 0) ordered_from ∙ at 0 ∙ ap from.by e ∙ sym (at 1) ∙ ap (λ (m : List ℕ). get_or m 1 0) (sym ordered_from)

  -- what the five are worth
  abbrev whole : ℕ → Bool → Hand
  whole foot f = hand (class_of (in_row (lowered foot (ordered (x ∷ l)))) f (most_held (x ∷ l)) (next_held (x ∷ l))) (lowered foot (ordered (x ∷ l)))

  odd_order : binary bs ≡ 0 → ordered (x ∷ l) ≡ x ∷ l
  unfolding ranks_at
  odd_order e = order_row ∙ ap (λ (n : ℕ). ranks_at (get_or rows n 0) (x ∷ l)) e ∙ sym (five_list 0 (x ∷ l) (omega arith))

  pub odd_worth : (foot : ℕ) (f : Bool) → binary bs ≡ 0 → odd_hand foot (x ∷ l) f ≡ whole foot f
  unfolding odd_hand
  odd_worth foot f e =
      let c : class_at (row_at bs) ≡ 8 = ap (λ (n : ℕ). class_at (get_or rows n 0)) e in
      let o : lowered foot (x ∷ l) ≡ lowered foot (ordered (x ∷ l)) = ap (lowered foot) (sym (odd_order e)) in
      ap₂ hand
      (ap (λ (m : List ℕ). class_by (in_row m) f 8) o ∙ ap (class_by (in_row (lowered foot (ordered (x ∷ l)))) f) (sym c) ∙ sym (class_row (in_row (lowered foot (ordered (x ∷ l)))) f))
      o

  pub row_worth : (foot : ℕ) (f : Bool) → foot + 3 < 14 → (binary bs ≡ 0 → ⊥) → hand_at (row_at bs) (x ∷ l) f ≡ whole foot f
  unfolding hand_at ranks_at
  row_worth foot f low h =
      let r = order_row in
      let p = not_row foot _ _ _ low (ap (λ (m : List ℕ). get_or m 0 0) (sym r) ∙ two_same h ∙ ap (λ (m : List ℕ). get_or m 1 0) r) in
      let o : ranks_at (row_at bs) (x ∷ l) ≡ lowered foot (ordered (x ∷ l)) = sym p.0 ∙ ap (lowered foot) (sym r) in
      ap₂ hand
      (ap (λ (b : Bool). class_by b f (class_at (row_at bs))) (sym p.1 ∙ ap in_row o) ∙ sym (class_row (in_row (lowered foot (ordered (x ∷ l)))) f))
      o
