-- Request No. 7: "Pool opening plus all drops equals jackpot payments, the parts that went to the house, and the pool." What two tables drop and win over an evening:
-- a list of hands of the one and the other, in the order in which they are settled, the newest first. Assumes nothing.
use Rattle.std.specs.Prelude.{ℕ, ◌+◌, Bool, true, false, List, [], ◌∷◌}
use Rattle.laws.specs.Tests.{pick}
use Rattle.pool.specs.declared.Pool.{Pool}
use Rattle.pool.specs.declared.Hand.{Hand}
use Rattle.pool.specs.Jackpot.{settled_pool}

-- "Two tables share one pool"
pub data Which : Type 0 where
  table1 : Which
  table2 : Which

abbrev pub is_at : Which → Which → Bool
is_at table1 table1 = true
is_at table1 table2 = false
is_at table2 table1 = false
is_at table2 table2 = true

-- a hand, and the table that settled it
pub record Played : Type 0 where
  pub at : Which
  pub hand : Hand

-- the pool after these hands
unfoldable pub pool_after : Pool → List Played → Pool
pool_after p [] = p
pool_after p (h ∷ hs) = (settled_pool (pool_after p hs) h.hand).pool

-- all that one of the tables dropped
unfoldable pub drops_of : Which → List Played → ℕ
drops_of k [] = 0
drops_of k (h ∷ hs) = pick (is_at k h.at) h.hand.drop 0 + drops_of k hs

-- the jackpot payments at one of the tables
unfoldable pub wins_of : Which → Pool → List Played → ℕ
wins_of k p [] = 0
wins_of k p (h ∷ hs) = pick (is_at k h.at) (settled_pool (pool_after p hs) h.hand).jackpot 0 + wins_of k p hs

-- the parts that went to the house
unfoldable pub house_parts : Pool → List Played → ℕ
house_parts p [] = 0
house_parts p (h ∷ hs) = (settled_pool (pool_after p hs) h.hand).house + house_parts p hs
