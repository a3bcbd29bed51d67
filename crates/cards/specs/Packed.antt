-- No section of the paper: how the code carries the chosen cards, and the best hand so far, in one number each: digits to the base 256.
-- proofs/Packed.antt shows that of two hands the one with the higher number beats the other. Assumes nothing.
use Rattle.std.specs.Prelude.{◌≡◌, List, [], ◌∷◌, ◌++◌, ℕ, zero, suc, ◌/◌, ◌%◌, ◌<◌, ◌≤◌, get_or}
use Rattle.cards.specs.Hands.{hand}
use Rattle.cards.specs.declared.Hand.{Hand}
use Rattle.cards.specs.declared.Ranking.{Ranking}

-- the last k digits of a number, the highest first
unfoldable pub digits : ℕ → ℕ → List ℕ
digits zero n = []
digits (suc k) n = digits k (n / 256) ++ (n % 256 ∷ [])

-- the class in a number of seven digits, of which the first is its place
abbrev pub class_in : ℕ → ℕ
class_in n = n / 1099511627776 % 256

-- the hand of a number: its ranks are the last five digits, and before them stands its class
unfoldable pub hand_in : ℕ → Hand
hand_in n = hand (class_in n) (digits 5 n)

-- by a ranking, the first digit is the place of the class, which is one of the nine or none
pub record IsHand (t : Ranking) (n : ℕ) : Type 0 where
  pub placed : n / 281474976710656 ≡ get_or t.places (class_in n) 0
  pub class_is : class_in n ≤ 9
  pub small : n < 72057594037927936
