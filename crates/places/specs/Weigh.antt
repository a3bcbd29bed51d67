-- No section of the paper: one number for each rank, of which the high part says how often the rank is held and the low part is the rank. proofs/Weighed.antt
-- shows that these fall as the paper's order does, so that the worth of many fives is computed fast. Assumes nothing.
use Rattle.std.specs.Prelude.{List, ℕ, ◌+◌, ◌*◌, ◌/◌, ◌%◌}
use Rattle.laws.specs.Often.{count}
use Rattle.cards.specs.Falls.{Below}

unfoldable pub weigh : List ℕ → ℕ → ℕ
weigh rs r = 256 * count r rs + r

abbrev pub rank_in : ℕ → ℕ
rank_in w = w % 256

abbrev pub times_in : ℕ → ℕ
times_in w = w / 256

-- each is below 256
abbrev pub SmallRanks : List ℕ → Type 0
SmallRanks l = Below 256 l
