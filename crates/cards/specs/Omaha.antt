-- Request No. 5: "A hand is exactly two of the hole cards with exactly three of the board: the best of 60 choices." The choices that each game allows, for any
-- number of hole and of board cards. Assumes nothing.
use Rattle.std.specs.Prelude.{List, [], ◌∷◌, ◌++◌, map, ℕ, eqb}
use Rattle.laws.specs.Tests.{pick}
use Rattle.cards.specs.Order.{choices}

-- each of the first before each of the second
abbrev pub each_before : List (List ℕ) → List (List ℕ) → List (List ℕ)
each_before [] qs = []
each_before (p ∷ ps) qs = map (λ q. p ++ q) qs ++ each_before ps qs

-- exactly k of the hole cards with exactly j of the board
unfoldable pub from_both : ℕ → ℕ → List ℕ → List ℕ → List (List ℕ)
from_both k j hole board = each_before (choices k hole) (choices j board)

-- with four hole cards exactly two of them and three of the board; else five "among two hole and five board cards, any mixture"
unfoldable pub allowed : ℕ → List ℕ → List ℕ → List (List ℕ)
allowed game hole board = pick (eqb game 4) (from_both 2 3 hole board) (choices 5 (hole ++ board))
