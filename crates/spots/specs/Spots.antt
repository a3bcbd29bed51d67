-- Where things stand in the picture of a hand's chips, in tenths of a pixel: from the left by columns, one for each who was dealt in, and from above by heights, as
-- columns/specs draws them. Assumes nothing.
use Rattle.std.specs.Prelude.{ℕ, ◌+◌, ◌-◌, ◌*◌, ◌/◌, min, List, get_or, eqb, ltb}
use Rattle.laws.specs.Tests.{pick, either}
use Rattle.pots.specs.declared.Pot.{Pot}
use Rattle.pots.specs.declared.Pots.{Pots}
use Rattle.columns.specs.Columns.{reach_of}

-- ---- a hand's pots

-- no pot: no chips, nobody contends
abbrev pub no_pot : Pot
no_pot = record { amount = 0; who = 0 }

-- the k-th pot, from 0 for the lowest
abbrev pub pot_at : Pots → ℕ → Pot
pot_at ps k = get_or ps.list k no_pot

-- up to which height the first k pots reach: the next one's band begins there
unfoldable pub reach_of_first : List ℕ → Pots → ℕ → ℕ
reach_of_first totals ps k = pick (eqb k 0) 0 (reach_of totals (pot_at ps (k - 1)).who)

-- a pot is called by its place from 1; there are nine at most
abbrev pub number_of_pot : ℕ → ℕ
number_of_pot k = min (k + 1) 9

-- ---- from the left

-- the bands begin 200 from the left; each column has 800, and its chips begin 140 further; there are ten at most
abbrev pub band : ℕ
band = 200

abbrev pub stride : ℕ
stride = 800

-- the left side of the j-th column's chips, from 0
abbrev pub column_x : ℕ → ℕ
column_x j = band + 140 + stride * min j 9

-- the right side of the bands across so many columns
abbrev pub right_of : ℕ → ℕ
right_of columns = band + stride * min columns 10

-- one column more
abbrev pub next_column : ℕ → ℕ
next_column j = min (j + 1) 10

-- ---- from above

-- the foot of the columns, and how far above the rest returned chips are drawn
abbrev pub foot : ℕ
foot = 3500

abbrev pub apart_by : ℕ
apart_by = 160

-- a height of the picture, and one of what goes back
abbrev pub y_at : ℕ → ℕ
y_at high = foot - high

abbrev pub apart_at : ℕ → ℕ
apart_at high = foot - apart_by - high

-- the k-th of so many labels, from the lowest: each in the middle of an equal part of 3160 above the foot, so that none lies on another
unfoldable pub label_y : ℕ → ℕ → ℕ
label_y k labels = pick (either (ltb 10 k) (eqb labels 0)) foot (foot - (2 * k + 1) * 1580 / labels)

-- ---- sums that always fit

-- a number above a thousand million is no place: nothing is added to it, nor it to another
abbrev pub place_most : ℕ
place_most = 1_000_000_000

unfoldable pub more_by : ℕ → ℕ → ℕ
more_by a b = pick (either (ltb place_most a) (ltb place_most b)) a (a + b)
