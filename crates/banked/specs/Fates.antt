-- Source document 002, section 3: the fate of each wager, rule by rule. "The player elects not to have their cards exposed" (4.12) is left out: nobody keys
-- it. Assumes nothing.
use Rattle.std.specs.Prelude.{Bool, true, false, ℕ, ◌≤◌, eqb}
use Rattle.laws.specs.Tests.{pick}
use Rattle.banked.specs.Hands.{Hand, is_flush_or_higher}
use Rattle.banked.specs.Payouts.{extra_odds, bonus_times, in_table1}
use Rattle.std.specs.declared.cmp.Ordering.{Ordering}
use Rattle.std.specs.declared.cmp.Ordering.TheVariants.{Less, Equal, Greater}
use Rattle.banked.specs.declared.fates.Fate.{Fate}
use Rattle.banked.specs.declared.fates.Fate.TheVariants.{Lost, Returned, Odds, Times}

-- Ante Wager, 3.6: "win if the value of the Player's Hand exceeds the value of the Dealer's Hand and is ranked as a Flush or higher; lose if the Player's Hand
-- is folded; or the value of the Player's Hand is less than the value of the Dealer's Hand; be a Stand Off if the ranking of the Player's Hand is equal to that
-- of the Dealer's Hand." 3.7: "paid at the odds of 1 to 1". Where it exceeds the dealer's and is less than a flush, 3.6 lets the wager neither win nor lose:
-- "Stand Off means to neither win or lose", so it is returned. (The other reading, that it then stays with the house, is `Lost` in that line.)
unfoldable pub ante_fate : Bool → Ordering → Hand → Fate
ante_fate true s player = Lost
ante_fate false Greater player = pick (is_flush_or_higher player) (Odds 1) Returned
ante_fate false Less player = Lost
ante_fate false Equal player = Returned

-- Flop, Turn and River Wager, 3.36, 3.39 and 3.42: "win if the Player's Hand is ranked higher than the Dealer's Hand; lose if the Player's Hand is ranked lower
-- than the Dealer's Hand; be a Stand Off if the Player's Hand is ranked equal to the Dealer's Hand". 3.37, 3.40 and 3.43: "paid 1 to 1"
unfoldable pub play_fate : Ordering → Fate
play_fate Greater = Odds 1
play_fate Less = Lost
play_fate Equal = Returned

-- a hand that a table does not list loses
abbrev pub unless_listed : ℕ → Fate → Fate
unless_listed n won = pick (eqb n 0) Lost won

-- Jackpot Wager, 3.12: "win if the player has placed a Flop Wager; and the Player's Hand achieves a ranked hand as listed in Table 1 or Table 2; or lose if the
-- player Folds; .. the Player's Hand achieves a ranked hand not listed in Table 1 or Table 2. regardless of the value of the Dealer's Hand." Table 2: so many
-- "times the .. Jackpot Wager", which is the whole prize. Table 1 (house): "Progressive prizes stay out: a jackpot wager on a straight flush or royal flush is
-- returned"
unfoldable pub jackpot_fate : Bool → Hand → Fate
jackpot_fate true flop = Lost
jackpot_fate false flop = pick (in_table1 flop) Returned (unless_listed (bonus_times flop) (Times (bonus_times flop)))

-- Poker Extra Wagers, 3.34: a winning one is paid by Table 3, so many to 1
unfoldable pub extra_fate : Bool → Hand → Fate
extra_fate true flop = Lost
extra_fate false flop = unless_listed (extra_odds flop) (Odds (extra_odds flop))

-- Player Poker Extra Wager, 3.33: "win if the Player's Hand, achieves a ranked hand as listed in Table 3; or lose: on any hand not listed in Table 3; .. if the
-- player folds regardless of the value of the Dealer's Hand"
abbrev pub player_extra_fate : Bool → Hand → Fate
player_extra_fate folded flop = extra_fate folded flop

-- Dealer Poker Extra Wager, 3.28: "win if the Dealer's Hand, achieves a ranked hand as listed in Table 3; or lose on any hand not listed in Table 3 regardless of
-- the value of the Player's Hand". A fold is not among what loses it
abbrev pub dealer_extra_fate : Hand → Fate
dealer_extra_fate flop = extra_fate false flop

-- no table pays more than 1,000
abbrev pub Fair : Fate → Type 0
Fair Lost = Unit {0}
Fair Returned = Unit {0}
Fair (Odds n) = n ≤ 1000
Fair (Times n) = n ≤ 1000
