-- No section of the paper: the bytes that the program `hands` writes about a hand. Assumes nothing.
use Rattle.std.specs.Prelude.{Bool, ◌≡◌, List, [], ◌∷◌, ◌++◌, ℕ, ◌+◌, ◌-◌, ◌/◌, ◌%◌, ltb, length, set, Ok, Err}
use Rattle.laws.specs.Tests.{pick}
use Rattle.cards.specs.Reading.{Reading, number_of}
use Rattle.cards.specs.declared.Hand.{Hand}
use Rattle.ladder.specs.Ladder.{place_of}

-- the list with the bytes in it from a place on
unfoldable pub written : List ℕ → ℕ → List ℕ → List ℕ
written l at [] = l
written l at (b ∷ bs) = written (set l at b) (at + 1) bs

-- the bytes were written from a place on, and r is the place behind them
pub record WroteAt (bs : List ℕ) (at : ℕ) (old new : List ℕ) (r : ℕ) : Type 0 where
  pub end : r ≡ at + length bs
  pub sheet : new ≡ written old at bs

-- a number below 100, in decimal
unfoldable pub number_bytes : ℕ → List ℕ
number_bytes n = pick (ltb n 10) ((48 + n) ∷ []) ((48 + n / 10) ∷ (48 + n % 10) ∷ [])

-- a rank, behind a blank
unfoldable pub rank_bytes : ℕ → List ℕ
rank_bytes n = 32 ∷ number_bytes n

-- the class, 8 for the highest, and the five ranks
unfoldable pub hand_bytes : Hand → List ℕ
hand_bytes h = number_bytes (8 - h.class) ++ rank_bytes h.r1 ++ rank_bytes h.r2 ++ rank_bytes h.r3 ++ rank_bytes h.r4 ++ rank_bytes h.r5

-- a number below 10,000, in decimal
unfoldable pub four_bytes : ℕ → List ℕ
four_bytes n = pick (ltb n 100) (number_bytes n) (number_bytes (n / 100) ++ ((48 + n % 100 / 10) ∷ []) ++ ((48 + n % 10) ∷ []))

-- `place=`
abbrev pub key_bytes : List ℕ
key_bytes = 112 ∷ 108 ∷ 97 ∷ 99 ∷ 101 ∷ 61 ∷ []

-- the place of the hand among the hands of 52 cards
unfoldable pub place_bytes : Hand → List ℕ
place_bytes h = key_bytes ++ four_bytes (place_of h)

-- the hand by its place, or by its class and ranks
unfoldable pub known_bytes : Bool → Hand → List ℕ
known_bytes place h = pick place (place_bytes h) (hand_bytes h)

-- the hand, or the paper's number, under every option
unfoldable pub reading_bytes : Bool → Reading → List ℕ
reading_bytes place (Ok h) = known_bytes place h
reading_bytes place (Err e) = number_bytes (number_of e)
