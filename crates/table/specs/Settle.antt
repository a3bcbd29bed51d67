-- Document 01, "Chip heights and pots" and `settle` at a table: the totals of the sittings dealt in, the pots they make, who is paid what,
-- and the table with its hand closed. Assumes nothing.
use Rattle.std.specs.Prelude.{ℕ, ◌≤◌, Bool, true, false, not, List, map, ◌≡◌, leb, eqb, replicate}
use Rattle.paper.specs.Paper.{wrong_moment, cards_missing, when, or_else, is_sheet}
use Rattle.laws.specs.Tests.{both, either, pick}
use Rattle.cards.specs.Order.{ranking_of, best_among}
use Rattle.cards.specs.Omaha.{allowed}
use Rattle.ladder.specs.Ladder.{kept_of}
use Rattle.pots.specs.Heights.{mask_at, back_of}
use Rattle.pots.specs.Runs.{pots_of}
use Rattle.pots.specs.Hand.{fee_of_hand, drop_of_hand, due_of, paid_of, unclaimed_of}
use Rattle.pots.specs.declared.Pot.{Pot}
use Rattle.pots.specs.declared.Commission.{Commission}
use Rattle.chairs.specs.Chairs.{count_of, want_of, hole_of, is_full, column_of, chips_of, close_all}
use Rattle.chairs.specs.declared.Chair.{Chair}
use Rattle.chairs.specs.Who.{Bare}
use Rattle.chairs.specs.What as what
use Rattle.table.specs.State.{no_board}
use Rattle.table.specs.Betting.{live_hands, nobody_owes}
use Rattle.table.specs.declared.table.Table.{Table}
use Rattle.table.specs.declared.table.Play.{Play}
use Rattle.table.specs.declared.table.Board.{Board}
use Rattle.table.specs.declared.table.Payout.{Payout}

-- settle: one live; or nobody owes and five board cards lie. With two live or more, each live seat has its cards entered; No. 5: "`settle` asks for all four"
unfoldable pub settle_code : Table → ℕ
settle_code t =
    or_else (when (not (both t.play.opened (either (eqb (live_hands t) 1) (both (nobody_owes t) (eqb t.board.count 5))))) wrong_moment)
    (when (both (leb 2 (live_hands t)) (not (eqb (count_of (want_of (Bare t.sheet.game)) t.chairs) 0))) cards_missing)

-- what each sitting dealt in has put in, and the live ones as a mask of dealt-in seats
abbrev pub totals_of : Table → List ℕ
totals_of t = map (column_of what.Total) t.chairs

abbrev pub lives_of : Table → ℕ
lives_of t = mask_at (map (column_of what.Live) t.chairs) 1

-- the sittings dealt in that are still there
abbrev pub here_of : Table → ℕ
here_of t = mask_at (map (column_of what.Here) t.chairs) 1

-- the pots of the open hand from the lowest, and the sum of its returned heights
unfoldable pub pots_now : Table → List Pot
pots_now t = pots_of (totals_of t) (lives_of t)

unfoldable pub back_now : Table → ℕ
back_now t = back_of (totals_of t) (lives_of t)

-- a live hand whose cards were all entered: one that can be compared
abbrev pub is_shown : ℕ → Chair → Bool
is_shown game c = both c.dealt.live (is_full game c)

-- what is kept (No. 11) of the best, by the ranking of the deck, of the choices of five that the game allows of hole and board cards
unfoldable pub hand_score : ℕ → ℕ → List ℕ → List ℕ → ℕ
hand_score deck game hole board = kept_of deck (best_among (ranking_of deck) (allowed game hole board))

-- what a seat's hand counts in a contest; 0 where there is none to compare ("A sole contender needs no cards")
unfoldable pub score_of : ℕ → ℕ → Board → Chair → ℕ
score_of deck game b c = pick (is_shown game c) (hand_score deck game (hole_of c) b.cards) 0

abbrev pub scores_of : Table → List ℕ
scores_of t = map (score_of t.sheet.deck t.sheet.game t.board) t.chairs

-- what the commission of the open hand goes by: the sheet's lines, and "the count of board cards". Of a table that shares no pool the drop is 0
-- (desk/specs/Log, `lone`)
abbrev pub commission_of : Table → Commission
commission_of t = record { rate = t.sheet.rate; cap = t.sheet.cap; step = t.sheet.step; board = t.board.count; drop = t.sheet.drop }

-- what the sitting dealt in at each seat is due: its part of the pots less commission, and its returned chips
abbrev pub due_now : Table → List ℕ
due_now t = due_of (totals_of t) (lives_of t) (scores_of t) (commission_of t) t.play.puck

-- what a settle pays: to a sitting that left 0, and what it is due is unclaimed
unfoldable pub payout_now : Table → Payout
payout_now t = record {
  settled = true;
  fee = fee_of_hand (totals_of t) (lives_of t) (commission_of t);
  drop = drop_of_hand (totals_of t) (lives_of t) (commission_of t);
  paid = paid_of (due_now t) (here_of t);
  sittings = map (column_of what.Sitting) t.chairs;
  unclaimed = unclaimed_of (due_now t) (here_of t);
}

abbrev pub no_payout : Payout
no_payout = record { settled = false; fee = 0; drop = 0; paid = replicate 10 0; sittings = replicate 10 0; unclaimed = 0 }

-- no hand: of the last one only the puck seat is kept
abbrev pub closed_play : Play → Play
closed_play p = record { opened = false; puck = p.puck; mark = 0; lift = 0; turn = 0 }

-- the hand is closed and its records cleared; what is paid is added to the stacks
unfoldable pub settled_to : Table → Table
settled_to t = record {
  sheet = t.sheet;
  taken = t.taken;
  sittings = t.sittings;
  play = closed_play t.play;
  board = no_board;
  chairs = close_all t.chairs (payout_now t).paid;
}

-- what paying asks of a table: it is part of Sound
pub record Payable (t : Table) : Type 0 where
  pub chips : chips_of t.chairs ≤ 100000000
  pub sheet : is_sheet t.sheet ≡ true
  pub puck : t.play.puck ≤ 10
