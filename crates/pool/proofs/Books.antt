-- The books of a pool (`pool_books`): over any list of hands of any two tables, the opening and all drops are the jackpot payments, the parts that went to the house
-- and the pool; and a pool that opens with at most 999,999,999 (as each that is opened does, `opening_most`) never exceeds it. Assumes nothing.
use Prim.Native.Nat.{ℕ, ◌+◌, ◌≤◌}
use mathlib.Core.Path.{◌≡◌}
use mathlib.Core.List.{List, [], ◌∷◌}
use native.Mathlib.Omega.{arith}
use Rattle.laws.specs.Tests.{pick}
use Rattle.pool.specs.declared.Pool.{Pool}
use Rattle.pool.specs.Jackpot.{most, settled_pool}
use Rattle.pool.specs.Evening.{Which, table1, table2, is_at, Played, pool_after, drops_of, wins_of, house_parts}
use Rattle.pool.proofs.Hands.{hand_books, hand_most}

-- a number of a hand counts at one of the two tables
at_one : (k : Which) (x : ℕ) → pick (is_at table1 k) x 0 + pick (is_at table2 k) x 0 ≡ x
at_one table1 x = omega arith
at_one table2 x = omega arith

whole : (p : Pool) (hs : List Played)
    → p.held + (drops_of table1 hs + drops_of table2 hs) ≡ wins_of table1 p hs + wins_of table2 p hs + house_parts p hs + (pool_after p hs).held
unfolding pool_after drops_of wins_of house_parts
whole p [] = omega arith
whole p (h ∷ hs) =
    omega (
      arith,
      whole p hs,
      hand_books (pool_after p hs) h.hand,
      at_one h.at h.hand.drop,
      at_one h.at (settled_pool (pool_after p hs) h.hand).jackpot,
    )

pub pool_most : (p : Pool) (hs : List Played) → p.held ≤ most → (pool_after p hs).held ≤ most
unfolding pool_after
pool_most p [] l = l
pool_most p (h ∷ hs) l = (hand_most (pool_after p hs) h.hand (pool_most p hs l)).0

pub pool_books : (p : Pool) (hs : List Played) → p.held ≤ most
    → (p.held + (drops_of table1 hs + drops_of table2 hs) ≡ wins_of table1 p hs + wins_of table2 p hs + house_parts p hs + (pool_after p hs).held)
    × ((pool_after p hs).held ≤ most)
pool_books p hs l = (whole p hs, pool_most p hs l)
