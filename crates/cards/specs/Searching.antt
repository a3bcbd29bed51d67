-- No section of the paper: the search for the best hand as the code goes about it, card by card: the next is skipped, or taken. proofs/Skipped.antt:
-- it meets the same hands as the choices of "Hand order". Assumes nothing.
use Rattle.std.specs.Prelude.{◌≡◌, List, [], ◌∷◌, ◌++◌, map, ℕ, zero, suc, ◌+◌, ◌-◌, ◌*◌, ◌/◌, ◌%◌, ◌<◌, ◌≤◌}
use Rattle.cards.specs.Hands.{value_of}
use Rattle.cards.specs.declared.Hand.{Hand}
use Rattle.cards.specs.declared.Ranking.{Ranking}

-- what is left of a list, in its order, when k of it are skipped
unfoldable pub leaving : ℕ → List ℕ → List (List ℕ)
leaving zero l = l ∷ []
leaving (suc k) [] = []
leaving (suc k) (c ∷ l) = leaving k l ++ map (λ m. c ∷ m) (leaving (suc k) l)

-- what the cards are worth that begin with p and go on with all but k of the list
unfoldable pub values_left : Ranking → List ℕ → ℕ → List ℕ → List Hand
values_left t p k l = map (λ m. value_of t (p ++ m)) (leaving k l)

-- the last k digits of a number to the base 256, the lowest first
unfoldable pub lows : ℕ → ℕ → List ℕ
lows zero n = []
lows (suc k) n = n % 256 ∷ lows k (n / 256)

-- what a digit counts that stands above k others
unfoldable pub units : ℕ → ℕ
units zero = 1
units (suc k) = 256 * units k

-- where the search stands: `have` cards are taken, the digits of `chosen`; of those to come, the digits of `rest`, `spare` are still to be skipped, and five
-- are taken in the end. With a sixth taken no choice is left.
pub record Stands (rest spare chosen have unit : ℕ) : Type 0 where
  pub some : 0 < spare
  pub most : have ≤ 6
  pub unit_is : unit ≡ units have
  pub taken : chosen < unit
  pub left : rest < units (5 + spare - have)
