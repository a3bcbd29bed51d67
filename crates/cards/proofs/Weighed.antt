-- What the code finds of five cards by the steps between their ranks is what they are worth, and the better of it and the best hand so far is kept: by the
-- higher number, or, where the place of its class is lower already, without its ranks. By any ranking that has places. Assumes nothing.
use mathlib.Core.Path.{◌≡◌, refl, sym, ap, ap₂, ◌∙◌, subst}
use mathlib.Core.Bool.{Bool, true, false}
use mathlib.Core.Logic.{⊎_elim}
use mathlib.Core.List.{List, [], ◌∷◌, map}
use Prim.Native.Nat.{ℕ, zero, suc, ◌+◌, ◌*◌, ◌/◌, ◌%◌, ◌<◌, ◌≤◌, max}
use native.Mathlib.Omega.{arith}
use native.Mathlib.Decide.{dec_lt}
use lib.Dec.{ltb}
use lib.ListN.{get_or}
use Rattle.laws.specs.Tests.{pick}
use Rattle.laws.specs.Lists.{All}
use Rattle.laws.proofs.Tests.{test}
use Rattle.cards.specs.Cards.{rank, suit, ordered, lowered, in_row, one_suit, all_alike}
use Rattle.cards.specs.Hands.{hand, most_held, next_held, class_of, ranks_of, class_of_cards, value_of}
use Rattle.cards.specs.Order.{better_by, Placed}
use Rattle.cards.specs.Packed.{digits, hand_in, IsHand}
use Rattle.cards.specs.Patterns.{neighbours, binary, rows, ranks_at, class_at, class_by, odd_hand, hand_at}
use Rattle.cards.specs.Steps.{ranks_in, suits_in, steps_in, marks_in, pattern_in, lowest_row}
use Rattle.cards.specs.declared.Hand.{Hand}
use Rattle.cards.specs.declared.Ranking.{Ranking}
use Rattle.cards.proofs.Falls.{Falling}
use Rattle.cards.proofs.Packed.{number_hand}
use Rattle.cards.proofs.Patterns.{odd_worth, row_worth}
use Rattle.cards.proofs.Searched.{value_class, better_new, better_old}
use Rattle.cards.proofs.Stepped.{card1, card2, card3, card4, card5, ranks_spelled, marks_fall, pattern_is, no_row, suits_same}

-- the ranks of five cards
abbrev pub ranks_of_five : ℕ → List ℕ
ranks_of_five n = rank (card1 n) ∷ rank (card2 n) ∷ rank (card3 n) ∷ rank (card4 n) ∷ rank (card5 n) ∷ []

five_ranks : (n : ℕ) → map rank (digits 5 n) ≡ ranks_of_five n
unfolding digits
five_ranks n = refl

rank_small : (c : ℕ) → rank (c % 256) < 66
rank_small c = omega arith

-- the larger number is the better hand's
pub larger_better : (t : Ranking) → Placed t → (a m n r : ℕ) (v : Hand) → IsHand t a → (hand_in m ≡ v) × IsHand t m → v ≡ value_of t (digits 5 n) → r ≡ max a m
    → (hand_in r ≡ better_by t (hand_in a) (value_of t (digits 5 n))) × IsHand t r
larger_better t pl a m n r v ha hm ev e = elim (dec_lt a m) [
  | yes lt ↦ let q : r ≡ m = omega arith in rw q (better_new t pl a m n v (digits 5 n) ha hm ev refl lt)
  | no le ↦ let q : r ≡ a = omega arith in rw q (better_old t pl a m n v (digits 5 n) ha hm ev refl (omega arith))
]

plain_class : (k : ℕ) → class_by false false k ≡ k
unfolding class_by
plain_class k = go (ltb k 3)
  where
    go : (b : Bool) → pick b k k ≡ k
    go true = refl
    go false = refl

-- five cards whose ranks fall, and that are not of one suit
module _ (t : Ranking) (n : ℕ) (marks : marks_in (steps_in (ranks_in n)) ≡ 16843009) (suits : suits_in n ≡ suits_in (n / 256) → ⊥) where
  abbrev steps : ℕ
  steps = steps_in (ranks_in n)

  falls : (rank (card2 n) ≤ rank (card1 n)) × (rank (card3 n) ≤ rank (card2 n)) × (rank (card4 n) ≤ rank (card3 n)) × (rank (card5 n) ≤ rank (card4 n))
  falls =
      marks_fall (rank (card1 n)) (rank (card2 n)) (rank (card3 n)) (rank (card4 n)) (rank (card5 n)) (rank_small _) (rank_small _) (rank_small _) (rank_small _) (rank_small _)
      (ap (λ (r : ℕ). marks_in (steps_in r)) (sym (ranks_spelled n)) ∙ marks)

  falling : Falling (ranks_of_five n)
  falling = (falls.0, (falls.1, (falls.2, (falls.3, (tt, tt)))))

  over : All (λ y. 0 < y) (ranks_of_five n)
  over = (omega arith, (omega arith, (omega arith, (omega arith, (omega arith, tt)))))

  -- the pattern is that of the ranks
  pattern_told : pattern_in steps ≡ binary (neighbours (ranks_of_five n))
  pattern_told =
      ap (λ (r : ℕ). pattern_in (steps_in r)) (ranks_spelled n)
      ∙ pattern_is (rank (card1 n)) (rank (card2 n)) (rank (card3 n)) (rank (card4 n)) (rank (card5 n)) (rank_small _) (rank_small _) (rank_small _) (rank_small _) (rank_small _) falls.0 falls.1 falls.2 falls.3

  no_flush : one_suit (digits 5 n) ≡ false
  unfolding one_suit
  no_flush = ⊎_elim
      (λ (s : all_alike (map suit (digits 5 n)) ≡ true). absurd (suits (suits_same n s)))
      (λ (f : all_alike (map suit (digits 5 n)) ≡ false). f)
      (test (all_alike (map suit (digits 5 n))))

  -- what the definition finds of these ranks
  found : hand (class_of (in_row (lowered t.foot (ordered (ranks_of_five n)))) false (most_held (ranks_of_five n)) (next_held (ranks_of_five n))) (lowered t.foot (ordered (ranks_of_five n)))
      ≡ value_of t (digits 5 n)
  unfolding value_of class_of_cards ranks_of
  found =
      ap₂ (λ (rs : List ℕ) (f : Bool). hand (class_of (in_row (lowered t.foot (ordered rs))) f (most_held rs) (next_held rs)) (lowered t.foot (ordered rs))) (sym (five_ranks n)) (sym no_flush)

  -- no two ranks are the same, and they are no straight
  pub odd_value : pattern_in steps ≡ 0 → (steps ≡ 2172748161 → ⊥) → (ranks_in n ≡ lowest_row t.foot → ⊥) → hand 8 (ranks_of_five n) ≡ value_of t (digits 5 n)
  unfolding odd_hand
  odd_value z ns nr =
      let r = no_row (rank (card1 n)) (rank (card2 n)) (rank (card3 n)) (rank (card4 n)) (rank (card5 n)) (rank_small _) (rank_small _) (rank_small _) (rank_small _) (rank_small _) t.foot
      (λ e. ns (ap steps_in (ranks_spelled n) ∙ e)) (λ e. nr (ranks_spelled n ∙ e)) in
      sym (ap₂ (λ (k : ℕ) (rs : List ℕ). hand k rs) (ap (λ (rs : List ℕ). class_by (in_row rs) false 8) r.0 ∙ ap (λ (b : Bool). class_by b false 8) r.1 ∙ plain_class 8) r.0)
      ∙ odd_worth (rank (card1 n)) (rank (card2 n) ∷ rank (card3 n) ∷ rank (card4 n) ∷ rank (card5 n) ∷ []) refl falling over t.foot false (sym pattern_told ∙ z) ∙ found

  -- some ranks are the same: by the row of their pattern
  pub row_value : t.foot + 3 < 14 → (pattern_in steps ≡ 0 → ⊥) → hand_at (get_or rows (pattern_in steps) 0) (ranks_of_five n) false ≡ value_of t (digits 5 n)
  row_value low z =
      ap (λ (k : ℕ). hand_at (get_or rows k 0) (ranks_of_five n) false) pattern_told
      ∙ row_worth (rank (card1 n)) (rank (card2 n) ∷ rank (card3 n) ∷ rank (card4 n) ∷ rank (card5 n) ∷ []) refl falling over t.foot false low (λ e. z (pattern_told ∙ e)) ∙ found

-- the number of an odd hand: the head of its class, and the ranks as they lie
pub odd_number : (t : Ranking) (n p m : ℕ) → p ≡ get_or t.places 8 0 → p < 256 → m ≡ (p * 256 + 8) * 1099511627776 + ranks_in n
    → (hand_in m ≡ hand 8 (ranks_of_five n)) × IsHand t m
odd_number t n p m e s f =
    number_hand t m p (hand 8 (ranks_of_five n)) (omega arith) e s (omega arith) (omega arith) (omega arith) (omega arith) (omega arith)
    (f ∙ ap (λ (r : ℕ). (p * 256 + 8) * 1099511627776 + r) (ranks_spelled n) ∙ head p (rank (card1 n)) (rank (card2 n)) (rank (card3 n)) (rank (card4 n)) (rank (card5 n)))
  where
    head : (p v w x y z : ℕ) → (p * 256 + 8) * 1099511627776 + ((((v * 256 + w) * 256 + x) * 256 + y) * 256 + z) ≡ (((((p * 256 + 8) * 256 + v) * 256 + w) * 256 + x) * 256 + y) * 256 + z
    head p v w x y z = omega arith

at_small : (n k : ℕ) → get_or (ranks_of_five n) k 0 < 256
at_small n zero = omega arith
at_small n (suc zero) = omega arith
at_small n (suc (suc zero)) = omega arith
at_small n (suc (suc (suc zero))) = omega arith
at_small n (suc (suc (suc (suc zero)))) = omega arith
at_small n (suc (suc (suc (suc (suc k))))) = omega arith

-- a hand whose class has a lower place than the best so far is not better, whatever its ranks
pub row_below : (t : Ranking) → Placed t → (a n k p : ℕ) → IsHand t a → hand_at k (ranks_of_five n) false ≡ value_of t (digits 5 n) → p ≡ get_or t.places (class_at k) 0 → p < 256
    → p < a / 281474976710656 → (hand_in a ≡ better_by t (hand_in a) (value_of t (digits 5 n))) × IsHand t a
unfolding hand_at ranks_at
row_below t pl a n k p ha ev e s lt =
    let c : class_by false false (class_at k) ≡ class_at k = plain_class (class_at k) in
    let nine : class_by false false (class_at k) ≤ 9 = subst (λ (v : Hand). v.class ≤ 9) (sym ev) (value_class t (digits 5 n)) in
    let h = number_hand t _ p (hand_at k (ranks_of_five n) false) nine (e ∙ ap (λ (i : ℕ). get_or t.places i 0) (sym c)) s
    (at_small n (k / 65536 % 8)) (at_small n (k / 4096 % 8)) (at_small n (k / 256 % 8)) (at_small n (k / 16 % 8)) (at_small n (k % 8)) refl in
    better_old t pl a _ n (hand_at k (ranks_of_five n) false) (digits 5 n) ha h ev refl
    (below p a (class_by false false (class_at k)) (get_or (ranks_of_five n) (k / 65536 % 8) 0) (get_or (ranks_of_five n) (k / 4096 % 8) 0) (get_or (ranks_of_five n) (k / 256 % 8) 0) (get_or (ranks_of_five n) (k / 16 % 8) 0) (get_or (ranks_of_five n) (k % 8) 0) nine
    (at_small n (k / 65536 % 8)) (at_small n (k / 4096 % 8)) (at_small n (k / 256 % 8)) (at_small n (k / 16 % 8)) (at_small n (k % 8)) lt)
  where
    below : (p a c u v w x y : ℕ) → c ≤ 9 → u < 256 → v < 256 → w < 256 → x < 256 → y < 256 → p < a / 281474976710656
        → (((((p * 256 + c) * 256 + u) * 256 + v) * 256 + w) * 256 + x) * 256 + y ≤ a
    below p a c u v w x y hc hu hv hw hx hy lt = omega arith

-- the better of the hand of the number a and the five cards of n, as the code goes about it
module _ (t : Ranking) (pl : Placed t) (a n ranks steps marks others first : ℕ) (ha : IsHand t a) (e₁ : ranks ≡ ranks_in n) (e₂ : steps ≡ steps_in ranks) (e₃ : marks ≡ marks_in steps) (f₁ : marks ≡ 16843009)
    (e₄ : others ≡ suits_in n) (e₅ : first ≡ suits_in (n / 256)) (f₂ : others ≡ first → ⊥)
  where
    down : marks_in (steps_in (ranks_in n)) ≡ 16843009
    down = ap (λ (r : ℕ). marks_in (steps_in r)) (sym e₁) ∙ ap marks_in (sym e₂) ∙ sym e₃ ∙ f₁

    apart : suits_in n ≡ suits_in (n / 256) → ⊥
    apart e = f₂ (e₄ ∙ e ∙ sym e₅)

    steps-told : steps ≡ steps_in (ranks_in n)
    steps-told = e₂ ∙ ap steps_in e₁

    pub odd-better : (k q p r : ℕ) → k ≡ pattern_in steps → k ≡ 0 → (steps ≡ 2172748161 → ⊥) → q ≡ lowest_row t.foot → (ranks ≡ q → ⊥) → p ≡ get_or t.places 8 0 → p < 256
        → r ≡ max a ((p * 256 + 8) * 1099511627776 + ranks) → (hand_in r ≡ better_by t (hand_in a) (value_of t (digits 5 n))) × IsHand t r
    odd-better k q p r ek z ns eq nr ep small er =
        larger_better t pl a ((p * 256 + 8) * 1099511627776 + ranks) n r (hand 8 (ranks_of_five n)) ha
        (odd_number t n p ((p * 256 + 8) * 1099511627776 + ranks) ep small (ap (λ (x : ℕ). (p * 256 + 8) * 1099511627776 + x) e₁))
        (odd_value t n down apart (ap pattern_in (sym steps-told) ∙ sym ek ∙ z) (λ e. ns (steps-told ∙ e)) (λ e. nr (e₁ ∙ e ∙ sym eq)))
        er

    module _ (k row : ℕ) (ek : k ≡ pattern_in steps) (nk : k ≡ 0 → ⊥) (er : row ≡ get_or rows k 0) where
      row_told : hand_at row (ranks_of_five n) false ≡ value_of t (digits 5 n)
      row_told =
          ap (λ (x : ℕ). hand_at x (ranks_of_five n) false) (er ∙ ap (λ (j : ℕ). get_or rows j 0) (ek ∙ ap pattern_in steps-told))
          ∙ row_value t n down apart pl.low (λ e. nk (ek ∙ ap pattern_in steps-told ∙ e))

      pub row_kept : (p : ℕ) → p ≡ get_or t.places (class_at row) 0 → p < 256 → p < a / 281474976710656 → (hand_in a ≡ better_by t (hand_in a) (value_of t (digits 5 n))) × IsHand t a
      row_kept p ep small lt = row_below t pl a n row p ha row_told ep small lt

      module _ (h : Hand) (five : List ℕ) (rs : List ℕ) (ef : five ≡ digits 5 n) (es : rs ≡ map rank five) (eh : h ≡ hand_at row rs false) where
        hand-told : h ≡ value_of t (digits 5 n)
        hand-told = eh ∙ ap (λ (l : List ℕ). hand_at row l false) (es ∙ ap (map rank) ef ∙ five_ranks n) ∙ row_told

        pub row-class : h.class ≤ 9
        row-class = subst (λ (v : Hand). v.class ≤ 9) (sym hand-told) (value_class t (digits 5 n))

        pub row-better : (m r : ℕ) → (hand_in m ≡ h) × IsHand t m → r ≡ max a m → (hand_in r ≡ better_by t (hand_in a) (value_of t (digits 5 n))) × IsHand t r
        row-better m r hm e = larger_better t pl a m n r h ha hm hand-told e
