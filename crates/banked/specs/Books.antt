-- Request No. 14: "Player's gain plus house's gain is always zero." What a wager's fate is in chips: to the player, and in the house's own books. A gain is two
-- numbers, what came and what went, since no number here is below 0. Assumes nothing.
use Rattle.std.specs.Prelude.{List, [], ◌∷◌, ℕ, ◌+◌, ◌-◌, ◌*◌}
use Rattle.banked.specs.declared.fates.Fate.{Fate}
use Rattle.banked.specs.declared.fates.Fate.TheVariants.{Lost, Returned, Odds, Times}

-- what comes back to the player of a wager, stake and win together: "to 1" is beside the wager, and "times the wager" is all that is paid
unfoldable pub back_of : Fate → ℕ → ℕ
back_of Lost stake = 0
back_of Returned stake = stake
back_of (Odds n) stake = stake + n * stake
back_of (Times n) stake = n * stake

-- the house's books: the stakes that it takes
unfoldable pub taken_of : Fate → ℕ → ℕ
taken_of Lost stake = stake
taken_of Returned stake = 0
taken_of (Odds n) stake = 0
taken_of (Times n) stake = stake

-- and the prizes that it pays
unfoldable pub paid_of : Fate → ℕ → ℕ
paid_of Lost stake = 0
paid_of Returned stake = 0
paid_of (Odds n) stake = n * stake
paid_of (Times n) stake = n * stake

-- a wager: its stake and its fate
pub record Wager : Type 0 where
  pub stake : ℕ
  pub fate : Fate

-- what comes back of it
abbrev pub back : Wager → ℕ
back w = back_of w.fate w.stake

pub record Gain : Type 0 where
  pub up : ℕ
  pub down : ℕ

abbrev pub no_gain : Gain
no_gain = record { up = 0; down = 0 }

abbrev pub and_gain : Gain → Gain → Gain
and_gain g h = record { up = g.up + h.up; down = g.down + h.down }

-- the player's gain of a wager: the chips that come back, less the chips put in
abbrev pub players_gain : Wager → Gain
players_gain w = record { up = back w; down = w.stake }

-- the house's: the stakes taken, less the prizes paid
abbrev pub houses_gain : Wager → Gain
houses_gain w = record { up = taken_of w.fate w.stake; down = paid_of w.fate w.stake }

-- of any list of wagers
unfoldable pub players_gains : List Wager → Gain
players_gains [] = no_gain
players_gains (w ∷ ws) = and_gain (players_gain w) (players_gains ws)

unfoldable pub houses_gains : List Wager → Gain
houses_gains [] = no_gain
houses_gains (w ∷ ws) = and_gain (houses_gain w) (houses_gains ws)

-- a gain as one side of it: by how much the chips that came are more than those that went, or fewer
abbrev pub net_of : Gain → Gain
net_of g = record { up = g.up - g.down; down = g.down - g.up }
