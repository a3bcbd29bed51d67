-- What each step of the search for the best hand finds, with the cards chosen and the best hand so far in one number each. Assumes nothing.
use mathlib.Core.Path.{◌≡◌, refl, sym, ap, subst, ◌∙◌}
use mathlib.Core.Bool.{true, false}
use mathlib.Core.List.{List, [], ◌∷◌, ◌++◌, map}
use Prim.Native.Nat.{ℕ, suc, ◌+◌, ◌-◌, ◌/◌, ◌%◌, ◌<◌, ◌≤◌}
use native.Mathlib.Omega.{arith}
use native.Mathlib.Numerals.{add-one}
use lib.ListN.{length, drop, get_or, get_or-eq_default}
use borrow.Author.Tests.{lt-ltb, le-ltb}
use Rattle.cards.specs.Cards.{rank, in_row, one_suit}
use Rattle.cards.specs.Hands.{hand, ranks_of, most_held, next_held, class_of_cards, value_of}
use Rattle.cards.specs.Order.{beats_by, better_by, keep, none, best_of, values_from, Placed}
use Rattle.cards.specs.Packed.{digits, class_in, hand_in, IsHand}
use Rattle.cards.specs.declared.Hand.{Hand}
use Rattle.cards.specs.declared.Ranking.{Ranking}
use Rattle.cards.proofs.Kept.{class_below, pick_first, pick_second}
use Rattle.cards.proofs.Choices.{when_chosen, when_more, best_short}
use Rattle.cards.proofs.Packed.{digits_push, beats_number}

pub hand_of : (n k : ℕ) (q : List ℕ) → q ≡ digits 5 n → k ≡ class_in n → hand k q ≡ hand_in n
unfolding hand_in
hand_of n k q e f = ap (λ (x : ℕ). hand x q) f ∙ ap (hand (class_in n)) e

pub value_class : (t : Ranking) (q : List ℕ) → (value_of t q).class ≤ 9
unfolding value_of class_of_cards
value_class t q = omega (arith, class_below (in_row (ranks_of t.foot q)) (one_suit q) (most_held (map rank q)) (next_held (map rank q)))

pub class_small : (t : Ranking) (v : Hand) (q : List ℕ) → v ≡ value_of t q → v.class ≤ 9
class_small t v q e = subst (λ (h : Hand). h.class ≤ 9) (sym e) (value_class t q)

-- of the hand of the number a, and five cards whose hand has the number m, the better
module _ (t : Ranking) (pl : Placed t) (a m n : ℕ) (v : Hand) (q : List ℕ) (ha : IsHand t a) (hm : (hand_in m ≡ v) × IsHand t m) (ev : v ≡ value_of t q) (eq : q ≡ digits 5 n) where
  is_value : hand_in m ≡ value_of t (digits 5 n)
  is_value = hm.0 ∙ ev ∙ ap (value_of t) eq

  pub better_new : a < m → (hand_in m ≡ better_by t (hand_in a) (value_of t (digits 5 n))) × IsHand t m
  better_new lt =
      let b : beats_by t (value_of t (digits 5 n)) (hand_in a) ≡ true =
      ap (λ (h : Hand). beats_by t h (hand_in a)) (sym is_value) ∙ beats_number t pl m a hm.1 ha ∙ lt-ltb a m lt in
      (is_value ∙ sym (pick_first t (hand_in a) (value_of t (digits 5 n)) b), hm.1)

  pub better_old : m ≤ a → (hand_in a ≡ better_by t (hand_in a) (value_of t (digits 5 n))) × IsHand t a
  better_old le =
      let b : beats_by t (value_of t (digits 5 n)) (hand_in a) ≡ false =
      ap (λ (h : Hand). beats_by t h (hand_in a)) (sym is_value) ∙ beats_number t pl m a hm.1 ha ∙ le-ltb a m le in
      (sym (pick_second t (hand_in a) (value_of t (digits 5 n)) b), ha)

module _ (t : Ranking) (h r : Hand) (n j i : ℕ) (l : List ℕ) where
  -- five are chosen
  pub found_five : j ≡ 5 → r ≡ better_by t h (value_of t (digits 5 n)) → r ≡ keep t h (values_from t (digits j n) (5 - j) (drop i l))
  found_five e er =
      er ∙ ap (λ (k : ℕ). better_by t h (value_of t (digits k n))) (sym e) ∙ sym (when_chosen t h (digits j n) (5 - j) (drop i l) (omega arith))

  -- the next card is taken, and then skipped
  pub found_more : (m : ℕ) (g : Hand) → j ≤ 5 → (j ≡ 5 → ⊥) → i < length l → m / 256 ≡ n % 4294967296 → m % 256 ≡ get_or l i 0
      → g ≡ keep t h (values_from t (digits (j + 1) m) (5 - (j + 1)) (drop (i + 1) l))
      → r ≡ keep t g (values_from t (digits j n) (5 - j) (drop (i + 1) l)) → r ≡ keep t h (values_from t (digits j n) (5 - j) (drop i l))
  found_more m g le ne lt e f eg er =
      let z : 5 - j ≡ suc (5 - (j + 1)) = omega arith in
      let d : digits (j + 1) m ≡ digits j n ++ (get_or l i 0 ∷ []) = rw add-one (digits_push j n (get_or l i 0) m (omega arith) e f) in
      when_more t h (digits j n) (5 - (j + 1)) i l g r lt
      (eg ∙ ap (λ (q : List ℕ). keep t h (values_from t q (5 - (j + 1)) (drop (i + 1) l))) d)
      (er ∙ ap (λ (k : ℕ). keep t g (values_from t (digits j n) k (drop (i + 1) l))) z)
      ∙ ap (λ (k : ℕ). keep t h (values_from t (digits j n) k (drop i l))) (sym z)

pub no_hand_law : hand_in 9895604649984 ≡ none
unfolding hand_in digits
no_hand_law = refl

pub none_is : (t : Ranking) → length t.places ≡ 9 → IsHand t 9895604649984
none_is t n = record { placed = sym (get_or-eq_default t.places 0 (omega arith)); class_is = omega arith; small = omega arith }

pub found_none : (t : Ranking) (r : Hand) (l : List ℕ) → length l < 5 → r ≡ hand_in 9895604649984 → r ≡ best_of t l
found_none t r l h e = e ∙ no_hand_law ∙ sym (best_short t l h)

pub found_best : (t : Ranking) (r : Hand) (l : List ℕ) → r ≡ keep t (hand_in 9895604649984) (values_from t (digits 0 0) 5 l) → r ≡ best_of t l
unfolding hand_in digits best_of values_from
found_best t r l e = e
