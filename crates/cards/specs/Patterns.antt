-- No section of the paper: how the code finds the order of "Hand order" for five ranks that fall. All that counts of them, straights aside, is which
-- neighbours are the same: a table has a row for each of the 16 patterns (proofs/Patterns.antt: each row is right). Assumes nothing.
use Rattle.std.specs.Prelude.{Bool, false, List, [], ◌∷◌, ℕ, ◌+◌, ◌*◌, ◌/◌, ◌%◌, eqb, ltb, get_or}
use Rattle.laws.specs.Tests.{one, both, pick}
use Rattle.cards.specs.Cards.{lowered, in_row}
use Rattle.cards.specs.Hands.{hand}
use Rattle.cards.specs.declared.Hand.{Hand}

-- for each rank but the last, whether the next is the same
unfoldable pub neighbours : List ℕ → List Bool
neighbours [] = []
neighbours (x ∷ []) = []
neighbours (x ∷ y ∷ l) = eqb x y ∷ neighbours (y ∷ l)

-- a pattern as a number, the first the lowest
unfoldable pub binary : List Bool → ℕ
binary [] = 0
binary (b ∷ l) = one b + 2 * binary l

-- a class, and where the five ranks stand, in the order in which they are compared
abbrev pub row : ℕ → ℕ → ℕ → ℕ → ℕ → ℕ → ℕ
row k a b c d e = ((((k * 16 + a) * 16 + b) * 16 + c) * 16 + d) * 16 + e

-- the ranks where a row has them
unfoldable pub ranks_at : ℕ → List ℕ → List ℕ
ranks_at n q = get_or q (n / 65536 % 8) 0 ∷ get_or q (n / 4096 % 8) 0 ∷ get_or q (n / 256 % 8) 0 ∷ get_or q (n / 16 % 8) 0 ∷ get_or q (n % 8) 0 ∷ []

-- the class of a row
abbrev pub class_at : ℕ → ℕ
class_at n = n / 1048576 % 16

-- a class, straights and flushes aside, or what the cards are with them
unfoldable pub class_by : Bool → Bool → ℕ → ℕ
class_by straight flush k = pick (both straight flush) 0 (pick (ltb k 3) k (pick flush 3 (pick straight 4 k)))

-- what five ranks are worth of which no two are the same, from high to low; foot is the lowest rank of the deck
unfoldable pub odd_hand : ℕ → List ℕ → Bool → Hand
odd_hand foot rs flush = hand (class_by (in_row (lowered foot rs)) flush 8) (lowered foot rs)

-- what five ranks are worth of which some are the same, by the row of their pattern
unfoldable pub hand_at : ℕ → List ℕ → Bool → Hand
hand_at n rs flush = hand (class_by false flush (class_at n)) (ranks_at n rs)

-- for each pattern, with five ranks of it as letters
abbrev pub rows : List ℕ
rows =
    row 8 0 1 2 3 4  -- abcde
    ∷ row 7 0 1 2 3 4  -- aabcd
    ∷ row 7 1 2 0 3 4  -- abbcd
    ∷ row 5 0 1 2 3 4  -- aaabc
    ∷ row 7 2 3 0 1 4  -- abccd
    ∷ row 6 0 1 2 3 4  -- aabbc
    ∷ row 5 1 2 3 0 4  -- abbbc
    ∷ row 1 0 1 2 3 4  -- aaaab
    ∷ row 7 3 4 0 1 2  -- abcdd
    ∷ row 6 0 1 3 4 2  -- aabcc
    ∷ row 6 1 2 3 4 0  -- abbcc
    ∷ row 2 0 1 2 3 4  -- aaabb
    ∷ row 5 2 3 4 0 1  -- abccc
    ∷ row 2 2 3 4 0 1  -- aabbb
    ∷ row 1 1 2 3 4 0  -- abbbb
    ∷ row 8 0 1 2 3 4  -- aaaaa
    ∷ []
