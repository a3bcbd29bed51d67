-- Numbers of digits to the base 256: a digit pushed behind the others, and a hand's number, of which the higher beats the lower, by any ranking that has places.
-- Assumes nothing.
use mathlib.Core.Path.{◌≡◌, refl, sym, ap, ap₂, ◌∙◌}
use mathlib.Core.List.{List, [], ◌∷◌, ◌++◌}
use Prim.Native.Nat.{ℕ, zero, suc, ◌*◌, ◌+◌, ◌/◌, ◌%◌, ◌<◌, ◌≤◌}
use native.Mathlib.Omega.{arith}
use lib.Dec.{ltb}
use lib.ListN.{get_or, length}
use native.Mathlib.Decide.{dec_lt}
use Rattle.laws.proofs.Compare.{Tri, under, level, over, tri}
use Rattle.cards.specs.Order.{above, key, beats_by, Placed}
use Rattle.cards.specs.Falls.{Below}
use Rattle.cards.specs.Packed.{digits, class_in, hand_in, IsHand}
use Rattle.cards.specs.declared.Hand.{Hand}
use Rattle.cards.specs.declared.Ranking.{Ranking}
use Rattle.cards.proofs.Spelled.{spells_to, above_spells}
use Rattle.cards.proofs.Above.{higher, lower, equal}

-- a number and its rest by a have the same last digits, for j of them at most
abbrev Keeps : ℕ → ℕ → Type 0
Keeps j a = (k n : ℕ) → k ≤ j → digits k (n % a) ≡ digits k n

keeps_more : (j a b : ℕ) → ((n : ℕ) → (n % a / 256 ≡ n / 256 % b) × (n % a % 256 ≡ n % 256)) → Keeps j b → Keeps (suc j) a
unfolding digits
keeps_more j a b h f zero n le = refl
keeps_more j a b h f (suc k) n le =
    ap₂ (λ (l : List ℕ) (x : ℕ). l ++ (x ∷ [])) (ap (digits k) (h n).0 ∙ f k (n / 256) (omega arith)) (h n).1

keeps_none : Keeps 0 1
unfolding digits
keeps_none zero n le = refl
keeps_none (suc k) n le = absurd (omega arith)

keeps_four : Keeps 4 4294967296
keeps_four =
    keeps_more 3 4294967296 16777216 (λ n. (omega arith, omega arith))
    (keeps_more 2 16777216 65536 (λ n. (omega arith, omega arith))
    (keeps_more 1 65536 256 (λ n. (omega arith, omega arith)) (keeps_more 0 256 1 (λ n. (omega arith, omega arith)) keeps_none)))

-- a digit c behind the last four of n
pub digits_push : (k n c r : ℕ) → k ≤ 4 → r / 256 ≡ n % 4294967296 → r % 256 ≡ c → digits (suc k) r ≡ digits k n ++ (c ∷ [])
unfolding digits
digits_push k n c r le p q = ap₂ (λ (l : List ℕ) (x : ℕ). l ++ (x ∷ [])) (ap (digits k) p ∙ keeps_four k n le) q

-- a number is spelled by its place, its class and its digits
abbrev seven : ℕ → List ℕ
seven n = n / 281474976710656 ∷ class_in n ∷ digits 5 n

five_spells : (q n : ℕ) → q ≡ n / 1099511627776 → spells_to 256 q (digits 5 n) ≡ n
unfolding spells_to digits
five_spells q n e = omega arith

seven_spells : (n : ℕ) → spells_to 256 0 (seven n) ≡ n
unfolding spells_to
seven_spells n = five_spells ((0 * 256 + n / 281474976710656) * 256 + class_in n) n (omega arith)

module _ (t : Ranking) where
  seven_small : (n : ℕ) → IsHand t n → Below 256 (seven n)
  unfolding digits
  seven_small n h = omega (arith, h.small)

  -- the class is told by its place
  pub class_told : Placed t → (k j : ℕ) → k ≤ 9 → j ≤ 9 → get_or t.places k 0 ≡ get_or t.places j 0 → k ≡ j
  class_told p k j h g e = elim (dec_lt k 9) [
    | yes a ↦ elim (dec_lt j 9) [
      | yes b ↦ p.apart k j a b e
      | no b ↦ absurd (omega (arith, p.place k a, e, ap (λ (i : ℕ). get_or t.places i 0) (nine j g b)))
    ]
    | no a ↦ elim (dec_lt j 9) [
      | yes b ↦ absurd (omega (arith, p.place j b, e, ap (λ (i : ℕ). get_or t.places i 0) (nine k h a)))
      | no b ↦ omega arith
    ]
  ]
    where
      nine : (i : ℕ) → i ≤ 9 → (i < 9 → ⊥) → i ≡ 9
      nine i le h = omega arith

  -- a number behind the first that is the same where the first is
  above_told : (x y c d : ℕ) (l m : List ℕ) → (x ≡ y → c ≡ d) → above (x ∷ c ∷ l) (y ∷ d ∷ m) ≡ above (x ∷ l) (y ∷ m)
  above_told x y c d l m h = go (tri x y)
    where
      go : Tri x y → above (x ∷ c ∷ l) (y ∷ d ∷ m) ≡ above (x ∷ l) (y ∷ m)
      go (under a) = lower x y (c ∷ l) (d ∷ m) a ∙ sym (lower x y l m a)
      go (level a) = equal x y (c ∷ l) (d ∷ m) a ∙ equal c d l m (h a) ∙ sym (equal x y l m a)
      go (over a) = higher x y (c ∷ l) (d ∷ m) a ∙ sym (higher x y l m a)

  key_digits : (n : ℕ) → IsHand t n → key t (hand_in n) ≡ n / 281474976710656 ∷ digits 5 n
  unfolding hand_in digits
  key_digits n h =
      ap (λ (p : ℕ). p ∷ n / 256 / 256 / 256 / 256 % 256 ∷ n / 256 / 256 / 256 % 256 ∷ n / 256 / 256 % 256 ∷ n / 256 % 256 ∷ n % 256 ∷ []) (sym h.placed)

  long : (n m : ℕ) → length (seven n) ≡ length (seven m)
  unfolding digits
  long n m = refl

  -- of two hands the one with the higher number beats the other
  pub beats_number : Placed t → (n m : ℕ) → IsHand t n → IsHand t m → beats_by t (hand_in n) (hand_in m) ≡ ltb m n
  beats_number pl n m p q =
      ap₂ above (key_digits n p) (key_digits m q)
      ∙ sym (above_told (n / 281474976710656) (m / 281474976710656) (class_in n) (class_in m) (digits 5 n) (digits 5 m) (λ e. class_told pl (class_in n) (class_in m) p.class_is q.class_is (sym p.placed ∙ e ∙ q.placed)))
      ∙ above_spells 256 0 (seven n) (seven m) (long n m) (seven_small n p) (seven_small m q)
      ∙ ap₂ ltb (seven_spells m) (seven_spells n)

  -- the number of a hand, from its digits
  pub number_hand : (r p : ℕ) (h : Hand) → h.class ≤ 9 → p ≡ get_or t.places h.class 0 → p < 256 → h.r1 < 256 → h.r2 < 256 → h.r3 < 256 → h.r4 < 256 → h.r5 < 256
      → r ≡ ((((((p * 256 + h.class) * 256 + h.r1) * 256 + h.r2) * 256 + h.r3) * 256 + h.r4) * 256 + h.r5) → (hand_in r ≡ h) × IsHand t r
  unfolding hand_in digits
  number_hand r p h k g s a b c d e f =
      let x0 : class_in r ≡ h.class = omega arith in
      let u : r / 256 / 256 / 256 / 256 % 256 ≡ h.r1 = omega arith in
      let v : r / 256 / 256 / 256 % 256 ≡ h.r2 = omega arith in
      let w : r / 256 / 256 % 256 ≡ h.r3 = omega arith in
      let x : r / 256 % 256 ≡ h.r4 = omega arith in
      let y : r % 256 ≡ h.r5 = omega arith in
      let z : r / 281474976710656 ≡ p = omega arith in
      (rw (x0, u, v, w, x, y), record { placed = z ∙ g ∙ ap (λ (i : ℕ). get_or t.places i 0) (sym x0); class_is = omega arith; small = omega arith })
