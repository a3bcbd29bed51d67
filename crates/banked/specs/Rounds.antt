-- A round of play of source document 002: how much each wager is, its fate, what comes back of it; and request No. 14's refusals. Assumes nothing.
use Rattle.std.specs.Prelude.{Bool, true, false, List, [], ◌∷◌, ℕ, ◌+◌, ◌-◌, ◌*◌, ◌≤◌, eqb, ltb, Result, Ok, Err}
use Rattle.laws.specs.Tests.{pick, either}
use Rattle.paper.specs.RefusalNumbers.{taken, out_of_range, when, or_else}
use Rattle.banked.specs.Hands.{players_hand, dealers_hand, players_flop_hand, dealers_flop_hand, standing_of, high_card, card_twice}
use Rattle.banked.specs.Fates.{ante_fate, play_fate, jackpot_fate, player_extra_fate, dealer_extra_fate}
use Rattle.banked.specs.Books.{Wager, Gain, and_gain, back, players_gains, houses_gains}
use Rattle.banked.specs.declared.Round.{Round}
use Rattle.banked.specs.declared.Choice.{Choice}
use Rattle.banked.specs.declared.Choice.TheVariants.{Fold, Stay}
use Rattle.std.specs.declared.cmp.Ordering.{Ordering}
use Rattle.banked.specs.declared.fates.Fate.{Fate}
use Rattle.banked.specs.declared.Deal.{Deal}
use Rattle.banked.specs.declared.judged.Seven.{Seven}
use Rattle.banked.specs.declared.judged.Settled.{Settled}
use Rattle.paper.specs.Refusals.{number_of}
use Rattle.paper.specs.declared.refusal.Refusal.{Refusal}
use Rattle.paper.specs.declared.refusal.Refusal.TheVariants.{OutOfRange, CardTwice}
use Rattle.paper.specs.RefusalNumbers as paper

-- ---- how much each wager is; 0 where it is not placed
abbrev pub is_fold : Choice → Bool
is_fold Fold = true
is_fold (Stay turn river) = false

-- "Flop Wager means a wager twice the amount of the Ante Wager"; 3.35: "To continue in a Round of Play, the player who placed the Ante Wager must place a Flop
-- Wager"
abbrev pub flop_stake : Choice → ℕ → ℕ
flop_stake Fold ante = 0
flop_stake (Stay turn river) ante = 2 * ante

-- "Turn Wager means a wager equal to the Ante Wager"; 3.38: "an optional wager"
abbrev pub turn_stake : Choice → ℕ → ℕ
turn_stake Fold ante = 0
turn_stake (Stay turn river) ante = pick turn ante 0

-- "River Wager means a wager equal to the player's Ante Wager"; 3.41: "an optional wager"
abbrev pub river_stake : Choice → ℕ → ℕ
river_stake Fold ante = 0
river_stake (Stay turn river) ante = pick river ante 0

-- each of the seven wagers
unfoldable pub stakes_of : Round → Seven
stakes_of r = record {
  ante = r.ante;
  flop = flop_stake r.choice r.ante;
  turn = turn_stake r.choice r.ante;
  river = river_stake r.choice r.ante;
  jackpot = r.jackpot;
  extra = r.extra;
  dealer = r.dealer;
}

-- ---- the wagers with their fates

abbrev pub wager : ℕ → Fate → Wager
wager stake fate = record { stake = stake; fate = fate }

module _ (s : Seven) (folded : Bool) (d : Deal) where
  abbrev pub standing : Ordering
  standing = standing_of (players_hand d) (dealers_hand d)

  abbrev pub ante_wager : Wager
  ante_wager = wager s.ante (ante_fate folded standing (players_hand d))

  abbrev pub flop_wager : Wager
  flop_wager = wager s.flop (play_fate standing)

  abbrev pub turn_wager : Wager
  turn_wager = wager s.turn (play_fate standing)

  abbrev pub river_wager : Wager
  river_wager = wager s.river (play_fate standing)

  abbrev pub jackpot_wager : Wager
  jackpot_wager = wager s.jackpot (jackpot_fate folded (players_flop_hand d))

  abbrev pub player_extra_wager : Wager
  player_extra_wager = wager s.extra (player_extra_fate folded (players_flop_hand d))

  abbrev pub dealer_extra_wager : Wager
  dealer_extra_wager = wager s.dealer (dealer_extra_fate (dealers_flop_hand d))

  -- what comes back of each
  unfoldable pub backs_of : Seven
  backs_of = record {
    ante = back ante_wager;
    flop = back flop_wager;
    turn = back turn_wager;
    river = back river_wager;
    jackpot = back jackpot_wager;
    extra = back player_extra_wager;
    dealer = back dealer_extra_wager;
  }

  abbrev pub wagers_with : List Wager
  wagers_with = ante_wager ∷ flop_wager ∷ turn_wager ∷ river_wager ∷ jackpot_wager ∷ player_extra_wager ∷ dealer_extra_wager ∷ []

-- all wagers of a round
abbrev pub wagers_of : Round → List Wager
wagers_of r = wagers_with (stakes_of r) (is_fold r.choice) r.deal

unfoldable pub total_of : Seven → ℕ
total_of s = s.ante + (s.flop + (s.turn + (s.river + (s.jackpot + (s.extra + s.dealer)))))

-- what is said of a round that is taken
unfoldable pub settled_of : Round → Settled
settled_of r =
    let staked = total_of (stakes_of r) in
    let backs = backs_of (stakes_of r) (is_fold r.choice) r.deal in
    record { backs = backs; staked = staked; back = total_of backs; won = total_of backs - staked; lost = staked - total_of backs }

-- ---- refusals: "No ante, any ante or side wager above 100,000, or a card above 51 gets code 2, then a repeated card 8; nothing changes."

abbrev pub too_much : ℕ → Bool
too_much stake = ltb 100000 stake

unfoldable pub wrong_number : Round → Bool
wrong_number r =
    either (eqb r.ante 0)
    (either (too_much r.ante) (either (too_much r.jackpot) (either (too_much r.extra) (either (too_much r.dealer) (high_card r.deal)))))

unfoldable pub round_code : Round → ℕ
round_code r = or_else (when (wrong_number r) out_of_range) (when (card_twice r.deal) paper.card_twice)

-- an answer: what is settled, or the refusal
abbrev pub Outcome : Type 0
Outcome = Result Settled Refusal

-- the answer to a round
unfoldable pub outcome_of : Round → Outcome
outcome_of r = pick (wrong_number r) (Err OutOfRange) (pick (card_twice r.deal) (Err CardTwice) (Ok (settled_of r)))

-- the paper's number for each answer
abbrev pub code_of_outcome : Outcome → ℕ
code_of_outcome (Ok s) = taken
code_of_outcome (Err e) = number_of e

-- no number is above m, save the flop wager's, which is at most twice as much
pub record Most (m : ℕ) (s : Seven) : Type 0 where
  pub ante : s.ante ≤ m
  pub flop : s.flop ≤ m + m
  pub turn : s.turn ≤ m
  pub river : s.river ≤ m
  pub jackpot : s.jackpot ≤ m
  pub extra : s.extra ≤ m
  pub dealer : s.dealer ≤ m

-- every number of an answer has at most nine digits
pub record SmallSettled (s : Settled) : Type 0 where
  pub backs : Most 100100000 s.backs
  pub staked : s.staked ≤ 800800000
  pub back : s.back ≤ 800800000
  pub won : s.won ≤ 800800000
  pub lost : s.lost ≤ 800800000

abbrev pub SmallOutcome : Outcome → Type 0
SmallOutcome (Ok s) = SmallSettled s
SmallOutcome (Err e) = Unit {0}

-- what the wagers of a round that is taken are at most
pub record Bounded (r : Round) : Type 0 where
  pub ante : r.ante ≤ 100000
  pub jackpot : r.jackpot ≤ 100000
  pub extra : r.extra ≤ 100000
  pub dealer : r.dealer ≤ 100000

-- ---- the books of player and house, round upon round

pub record Books : Type 0 where
  pub player : Gain
  pub house : Gain

-- after one round more: a refused one changes nothing
unfoldable pub books_after : Books → Round → Books
books_after b r =
    pick (eqb (round_code r) taken)
    (record { player = and_gain b.player (players_gains (wagers_of r)); house = and_gain b.house (houses_gains (wagers_of r)) })
    b

-- after any number of rounds
unfoldable pub books_of : Books → List Round → Books
books_of b [] = b
books_of b (r ∷ rs) = books_of (books_after b r) rs
