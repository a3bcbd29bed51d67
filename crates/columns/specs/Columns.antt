-- Document 01, "Chip heights and pots", for the eye: "The h-th chip put in by a sitting lies at height h", so a sitting is a column of its chips, and a pot, a longest run
-- of heights with the same contenders, is a band across the columns. Over any number of sittings. Assumes nothing.
use Rattle.std.specs.Prelude.{ℕ, zero, suc, ◌+◌, ◌-◌, ◌*◌, ◌/◌, ◌%◌, min, max, Bool, List, [], ◌∷◌, ◌≡◌, eqb}
use Rattle.laws.specs.Tests.{pick, both}
use Rattle.pots.specs.Levels.{second_of}
use Rattle.pots.specs.declared.Pot.{Pot}

-- how high the highest column is drawn, in tenths of a pixel
abbrev pub drawn : ℕ
drawn = 3000

-- the lowest of a bound and the columns of a mask's sittings
unfoldable pub least_among : ℕ → List ℕ → ℕ → ℕ
least_among bound [] who = bound
least_among bound (t ∷ ts) who = least_among (pick (eqb (who % 2) 1) (min t bound) bound) ts (who / 2)

-- up to which height a pot with these contenders reaches: to the lowest contender's last chip, and no higher than two sittings have chips
unfoldable pub reach_of : List ℕ → ℕ → ℕ
reach_of ts who = least_among (second_of ts) ts who

-- how many of a sitting's t chips lie above the height low and not above high
unfoldable pub slab_of : ℕ → ℕ → ℕ → ℕ
slab_of t low high = min t high - min t low

-- the chips of all sittings above the height low and not above high: a band across the columns
unfoldable pub band_of : List ℕ → ℕ → ℕ → ℕ
band_of [] low high = 0
band_of (t ∷ ts) low high = slab_of t low high + band_of ts low high

-- pots, from the lowest, whose chips are just those of their bands: each band begins at the height where the one below ends, and goes up to where its pot reaches
abbrev pub Banded : List ℕ → ℕ → List Pot → Type 0
Banded ts low [] = Unit {0}
Banded ts low (p ∷ ps) = (p.amount ≡ band_of ts low (reach_of ts p.who)) × Banded ts (reach_of ts p.who) ps

-- how high so many chips are drawn: as a part of the highest column, which is never taken for less than one chip
unfoldable pub drawn_of : ℕ → ℕ → ℕ
drawn_of chips most = min chips (max most 1) * drawn / max most 1

-- whether the sitting at a place, from 0, is in a mask
unfoldable pub in_mask : ℕ → ℕ → Bool
in_mask mask zero = eqb (mask % 2) 1
in_mask mask (suc n) = in_mask (mask / 2) n

-- the best score of a mask's seats
unfoldable pub best_among : ℕ → List ℕ → ℕ → ℕ
best_among best [] who = best
best_among best (s ∷ ss) who = best_among (pick (eqb (who % 2) 1) (max s best) best) ss (who / 2)

-- "shared equally by the contenders with the best hand": whether the contender at a place is one of them
unfoldable pub wins_of : List ℕ → ℕ → ℕ → ℕ → Bool
wins_of scores who place score = both (in_mask who place) (eqb (best_among 0 scores who) score)
