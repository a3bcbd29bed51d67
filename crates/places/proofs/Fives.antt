-- What five different cards are worth stands on the ladder. The cards may be taken from high to low; then their ranks sink, and antt computes for every
-- five ranks that do that the closed form gives their hand a place. Assumes nothing.
use mathlib.Core.Path.{◌≡◌, refl, sym, ap, ◌∙◌, subst}
use mathlib.Core.Bool.{Bool, true, false, not, ◌||◌, true≢false}
use mathlib.Core.Logic.{⊎_elim}
use mathlib.Core.List.Memᴰ
use mathlib.Core.List.{List, [], ◌∷◌, map, Memᴰ}
use Prim.Native.Nat.{ℕ, zero, suc, ◌+◌, ◌/◌, ◌%◌, ◌<◌, ◌≤◌}
use native.Mathlib.Omega.{arith}
use native.Mathlib.Decide.{dec_lt}
use lib.Dec.{eqb, ltb}
use lib.ListN.{length, get_or}
use borrow.Author.Tests.{eqb-true, ltb-true, ltb-false, lt-ltb, le-ltb, eq-eqb, ne_eqb}
use Rattle.laws.specs.Tests.{one, both, either}
use Rattle.laws.specs.Often.{count}
use Rattle.laws.specs.Some.{some}
use Rattle.laws.proofs.Tests.{test, both_true}
use Rattle.laws.proofs.Often.{count_self, one_small, same_length}
use Rattle.laws.proofs.Five.{five_list}
use Rattle.cards.specs.Cards.{is_wheel, lowered, in_row, all_are, all_alike, one_suit}
use Rattle.cards.specs.Hands.{ranking52, class_of}
use Rattle.cards.specs.Reading.{any_above, is_among, any_twice}
use Rattle.cards.specs.Falls.{fall}
use Rattle.places.specs.Weigh.{weigh}
use Rattle.cards.specs.declared.Hand.{Hand}
use Rattle.cards.proofs.Mixed.{value_same}
use Rattle.cards.proofs.Mixing.{Within, within_choice}
use Rattle.ladder.specs.Ladder.{ladder, worth52, FiveCards, Valid}
use Rattle.ladder.specs.Reckoned.{chosen_of, less, two_below, three_below, five_below, row_place, beside_place, four_place, full_place, rows_below, odd_place, three_place, two_pair_place, pair_place, reckoned_as, reckoned}
use Rattle.laws.proofs.Members.{count_has, has_some}
use Rattle.laws.proofs.Choosing.{Drops, choice_drops}
use Rattle.places.proofs.Worth.{worth_as, worth_by, worth_of, worth_is}
use Rattle.ladder.proofs.Shapes.{on_ladder}

-- ---- every list of numbers that sinks
-- none is above the one before, and the first is below b
abbrev Sinks : ℕ → List ℕ → Type 0
Sinks b [] = Unit {0}
Sinks b (y ∷ l) = (y < b) × Sinks (suc y) l

-- a test of every list of k numbers that sinks from below b
every_sinking : ℕ → ℕ → (List ℕ → Bool) → Bool
every_sinking zero b f = f []
every_sinking (suc k) zero f = true
every_sinking (suc k) (suc b) f = both (every_sinking k (suc b) (λ l. f (b ∷ l))) (every_sinking (suc k) b f)

every_at : (k b : ℕ) (f : List ℕ → Bool) → every_sinking k b f ≡ true → (l : List ℕ) → length l ≡ k → Sinks b l → f l ≡ true
unfolding every_sinking
every_at zero b f e [] n s = e
every_at zero b f e (y ∷ l) n s = absurd (omega arith)
every_at (suc k) b f e [] n s = absurd (omega arith)
every_at (suc k) zero f e (y ∷ l) n s = absurd (omega (arith, s.0))
every_at (suc k) (suc b) f e (y ∷ l) n s =
    let p = both_true (every_sinking k (suc b) (λ m. f (b ∷ m))) (every_sinking (suc k) b f) e in
    elim (dec_lt y b) [
      | yes h ↦ every_at (suc k) b f p.1 (y ∷ l) n (h, s.1)
      | no h ↦
          let q : y ≡ b = omega (arith, h, s.0) in
          subst (λ (v : ℕ). f (v ∷ l) ≡ true) (sym q) (every_at k (suc b) (λ m. f (b ∷ m)) p.0 l (omega arith) (subst (λ (v : ℕ). Sinks (suc v) l) q s.1))
    ]

-- ---- five ranks
-- ranks counted from 0: their hand has a place
stands : Bool → List ℕ → Bool
stands flush xs = ltb 0 (reckoned (worth_of flush (map (λ x. x + 2) xs)))

-- each is below the one before
dropping : List ℕ → Bool
dropping [] = true
dropping (x ∷ []) = true
dropping (x ∷ y ∷ l) = both (ltb y x) (dropping (y ∷ l))

-- unless all five are the same; and as a flush too if all differ
right : List ℕ → Bool
right xs = both (either (eqb (get_or xs 0 0) (get_or xs 4 0)) (stands false xs)) (either (not (dropping xs)) (stands true xs))

all_right : every_sinking 5 13 right ≡ true
unfolding every_sinking right stands dropping worth_of worth_by worth_as weigh fall is_wheel lowered in_row class_of chosen_of less two_below three_below five_below row_place beside_place four_place full_place rows_below odd_place three_place two_pair_place pair_place reckoned_as
all_right = refl

either_next : (a b : Bool) → either a b ≡ true → a ≡ false → b ≡ true
either_next true b h e = absurd (true≢false e)
either_next false b h e = h

low : (x : ℕ) → x < 52 → ltb 51 x ≡ false
low x h = le-ltb 51 x (omega arith)

-- ---- five cards from high to low
module _ (a b c d e : ℕ) (f : Drops 52 (a ∷ b ∷ c ∷ d ∷ e ∷ [])) where
  abbrev cards : List ℕ
  cards = a ∷ b ∷ c ∷ d ∷ e ∷ []

  abbrev fourths : List ℕ
  fourths = a / 4 ∷ b / 4 ∷ c / 4 ∷ d / 4 ∷ e / 4 ∷ []

  is_right : right fourths ≡ true
  is_right =
      every_at 5 13 right all_right fourths refl
      (omega (arith, f.0), (omega (arith, f.1.0), (omega (arith, f.1.1.0), (omega (arith, f.1.1.1.0), (omega (arith, f.1.1.1.1.0), tt)))))

  -- of five different cards not all are of one rank
  plain_stands : stands false fourths ≡ true
  unfolding right
  plain_stands =
      let p = both_true (either (eqb (a / 4) (e / 4)) (stands false fourths)) (either (not (dropping fourths)) (stands true fourths)) is_right in
      either_next (eqb (a / 4) (e / 4)) (stands false fourths) p.0 (ne_eqb (a / 4) (e / 4) (λ q. omega (arith, q, f.1.0, f.1.1.0, f.1.1.1.0, f.1.1.1.1.0)))

  -- and of one suit all ranks differ
  flush_drops : one_suit cards ≡ true → dropping fourths ≡ true
  unfolding one_suit all_alike dropping
  flush_drops h =
      let p = both_true (eqb (a % 4) (b % 4)) (all_are (a % 4) (c % 4 ∷ d % 4 ∷ e % 4 ∷ [])) h in
      let q = both_true (eqb (a % 4) (c % 4)) (all_are (a % 4) (d % 4 ∷ e % 4 ∷ [])) p.1 in
      let r = both_true (eqb (a % 4) (d % 4)) (all_are (a % 4) (e % 4 ∷ [])) q.1 in
      let s = both_true (eqb (a % 4) (e % 4)) true r.1 in
      let b4 = eqb-true (a % 4) (b % 4) p.0 in
      let c4 = eqb-true (a % 4) (c % 4) q.0 in
      let d4 = eqb-true (a % 4) (d % 4) r.0 in
      let e4 = eqb-true (a % 4) (e % 4) s.0 in
      rw (lt-ltb (b / 4) (a / 4) (omega (arith, b4, f.1.0)), lt-ltb (c / 4) (b / 4) (omega (arith, b4, c4, f.1.1.0)), lt-ltb (d / 4) (c / 4) (omega (arith, c4, d4, f.1.1.1.0)), lt-ltb (e / 4) (d / 4) (omega (arith, d4, e4, f.1.1.1.1.0)))

  flush_stands : one_suit cards ≡ true → stands true fourths ≡ true
  unfolding right
  flush_stands h =
      let p = both_true (either (eqb (a / 4) (e / 4)) (stands false fourths)) (either (not (dropping fourths)) (stands true fourths)) is_right in
      either_next (not (dropping fourths)) (stands true fourths) p.1 (ap not (flush_drops h))

  none_high : any_above cards ≡ false
  unfolding some
  none_high = rw (low a (omega (arith, f.0)), low b (omega (arith, f.0, f.1.0)), low c (omega (arith, f.0, f.1.0, f.1.1.0)), low d (omega (arith, f.0, f.1.0, f.1.1.0, f.1.1.1.0)), low e (omega (arith, f.0, f.1.0, f.1.1.0, f.1.1.1.0, f.1.1.1.1.0)))

  pub five_stand : Memᴰ (worth52 cards) ladder
  unfolding stands
  five_stand = on_ladder (worth52 cards) (subst (λ (h : Hand). 0 < reckoned h) (sym (worth_is cards none_high)) (go (one_suit cards) refl))
    where
      go : (s : Bool) → one_suit cards ≡ s → 0 < reckoned (worth_of s (map (λ x. x + 2) fourths))
      go true h = ltb-true 0 _ (flush_stands h)
      go false h = ltb-true 0 _ plain_stands

-- ---- five different cards are a choice of five of the deck, up to the order
-- the numbers below n, from high to low
down : ℕ → List ℕ
down zero = []
down (suc n) = n ∷ down n

down_drops : (n : ℕ) → Drops n (down n)
unfolding down
down_drops zero = tt
down_drops (suc n) = (omega arith, down_drops n)

down_has : (x n : ℕ) → x < n → 0 < count x (down n)
unfolding down
down_has x zero h = absurd (omega arith)
down_has x (suc n) h = elim (dec_lt x n) [
  | yes a ↦ omega (arith, down_has x n a)
  | no a ↦ let q : x ≡ n = omega arith in subst (λ (v : ℕ). 0 < count v (n ∷ down n)) (sym q) (omega (arith, count_self n (down n)))
]

or_false : (a b : Bool) → (a || b) ≡ false → (a ≡ false) × (b ≡ false)
or_false true b e = absurd (true≢false e)
or_false false b e = (refl, e)

-- a card that does not come again is there once at most
none_again : (x : ℕ) (l : List ℕ) → is_among x l ≡ false → count x l ≡ 0
none_again x l e = elim (dec_lt 0 (count x l)) [
  | yes h ↦ absurd (true≢false (sym (has_some (eqb x) x l (count_has x l h) (eq-eqb x x refl)) ∙ e))
  | no h ↦ omega arith
]

at_most_once : (x : ℕ) (l : List ℕ) → any_twice l ≡ false → count x l ≤ 1
unfolding some
at_most_once x [] e = omega arith
at_most_once x (c ∷ l) e =
    let p = or_false (is_among c l) (any_twice l) e in
    ⊎_elim
    (λ (q : eqb x c ≡ true).
    let z : count x l ≡ 0 = ap (λ (v : ℕ). count v l) (eqb-true x c q) ∙ none_again c l p.0 in
    omega (arith, z, one_small (eqb x c)))
    (λ (q : eqb x c ≡ false). let o : one (eqb x c) ≡ 0 = ap one q in omega (arith, o, at_most_once x l p.1))
    (test (eqb x c))

none_above : (x : ℕ) (l : List ℕ) → any_above l ≡ false → 0 < count x l → x ≤ 51
none_above x l e h =
    ⊎_elim
    (λ (q : ltb 51 x ≡ true). absurd (true≢false (sym (has_some (ltb 51) x l (count_has x l h) q) ∙ e)))
    (λ (q : ltb 51 x ≡ false). ltb-false 51 x q)
    (test (ltb 51 x))

of_deck : (l : List ℕ) → FiveCards l → Within l (down 52)
of_deck l f x = elim (dec_lt 0 (count x l)) [
  | yes h ↦ omega (arith, at_most_once x l f.2, down_has x 52 (omega (arith, none_above x l f.1 h)))
  | no h ↦ omega arith
]

five_fall : (l : List ℕ) → length l ≡ 5 → Drops 52 l → Memᴰ (worth52 l) ladder
five_fall l n d =
    let e = five_list 0 l n in
    subst (λ (m : List ℕ). Memᴰ (worth52 m) ladder) (sym e)
    (five_stand (get_or l 0 0) (get_or l 1 0) (get_or l 2 0) (get_or l 3 0) (get_or l 4 0) (subst (Drops 52) e d))

pub worth_stands : (l : List ℕ) → FiveCards l → Memᴰ (worth52 l) ladder
worth_stands l f =
    let t = within_choice 5 (down 52) l (of_deck l f) f.0 in
    Memᴰ.cast (value_same ranking52 l t.0 t.2) (five_fall t.0 (sym (same_length l t.0 t.2) ∙ f.0) (choice_drops 52 5 (down 52) t.0 (down_drops 52) t.1))

pub valid_stands : (h : Hand) → Valid h → Memᴰ h ladder
valid_stands h v = Memᴰ.cast v.2 (worth_stands v.0 v.1)
