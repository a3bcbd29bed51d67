-- Request No. 7: "The pool, at opening too (else 11), never exceeds 999,999,999; the part of a drop that doesn't fit goes to the house. .. A royal flush .. wins the
-- whole pool after that hand's drop".
-- A hand is what it drops, and whether such a royal flush is held in it; whose it is changes nothing of the pool. Assumes nothing.
use Rattle.std.specs.Prelude.{ℕ, ◌+◌, ◌-◌, min, false, ltb}
use Rattle.laws.specs.Tests.{pick}
use Rattle.paper.specs.Paper.{bad_sheet, when}
use Rattle.pool.specs.declared.Pool.{Pool}
use Rattle.pool.specs.declared.Hand.{Hand}
use Rattle.pool.specs.declared.Settled.{Settled}
use Rattle.pool.specs.declared.PoolOpened.{PoolOpened}

abbrev pub most : ℕ
most = 999999999

-- of a drop what fits into a pool that holds so much
unfoldable pub fits_in : ℕ → ℕ → ℕ
fits_in held dropped = min dropped (most - held)

-- "the part of a drop that doesn't fit goes to the house"
unfoldable pub house_of : ℕ → ℕ → ℕ
house_of held dropped = dropped - fits_in held dropped

-- what the pool holds with the drop
unfoldable pub fed_by : ℕ → ℕ → ℕ
fed_by held dropped = held + fits_in held dropped

-- "wins the whole pool after that hand's drop"; no other hand wins any of it
unfoldable pub win_of : ℕ → Hand → ℕ
win_of held h = pick h.royal (fed_by held h.drop) 0

-- a hand is settled: the drop into the pool, what doesn't fit to the house, then the win
unfoldable pub settled_pool : Pool → Hand → Settled
settled_pool p h = record {
  pool = record { held = fed_by p.held h.drop - win_of p.held h };
  jackpot = win_of p.held h;
  house = house_of p.held h.drop;
}

-- "at opening too (else 11)": the code, and the pool; a refused opening opens an empty one
unfoldable pub opened_with : ℕ → PoolOpened
opened_with held = record {
  code = when (ltb most held) bad_sheet;
  pool = record { held = pick (ltb most held) 0 held };
}

-- a block that settles no hand: it drops nothing and wins nothing
abbrev pub no_hand : Hand
no_hand = record { drop = 0; royal = false }
