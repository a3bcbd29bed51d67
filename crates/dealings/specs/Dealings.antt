-- A hand as its section of the page needs it: of each sitting what it put in by round, what goes back to it, how its hand ended, its best five, and what it is paid; and the
-- chips as columns with the pots. Assumes nothing.
use Rattle.std.specs.Prelude.{ℕ, suc, ◌-◌, Bool, true, false, not, List, [], ◌∷◌, Option, Some, None, map, count_by, ltb, eqb, get_or, length, replicate}
use Rattle.std.specs.Option.{is_none}
use Rattle.laws.specs.Tests.{both, either, pick}
use Rattle.cards.specs.Hands.{ranking_of}
use Rattle.cards.specs.Order.{best_among, best_of, strength_by}
use Rattle.cards.specs.Omaha.{from_both}
use Rattle.cards.specs.declared.Hand.{Hand}
use Rattle.pots.specs.Heights.{mask_at}
use Rattle.pots.specs.Runs.{padded}
use Rattle.pots.specs.Settle.{sole}
use Rattle.chairs.specs.Chairs.{column_of}
use Rattle.chairs.specs.declared.Chair.{Chair}
use Rattle.chairs.specs.declared.Hole.{Hole}
use Rattle.chairs.specs.What.{Total, Sitting, Live, Here}
use Rattle.table.specs.Settle.{pots_now, back_now}
use Rattle.table.specs.declared.table.Table.{Table}
use Rattle.table.specs.declared.table.Board.{Board}
use Rattle.table.specs.declared.table.Payout.{Payout}
use Rattle.notes.specs.Notes.{rounds_at}
use Rattle.notes.specs.declared.Ending.{Ending}
use Rattle.notes.specs.declared.Notes.{Notes}
use Rattle.spots.specs.Spots.{reach_of_first}
use Rattle.spots.specs.declared.Chips.{Chips}
use Rattle.section.specs.declared.Best.{Best}
use Rattle.section.specs.declared.Charged.{Charged}
use Rattle.section.specs.declared.Part.{Part}
use Rattle.section.specs.declared.Hand.{Hand as SectionHand}

-- a hand that is looked at: its class, its ranks, and the number that hands are compared by
abbrev pub shown_as : ℕ → Hand → Best
shown_as deck h = record { class = h.class; ranks = h.r1 ∷ h.r2 ∷ h.r3 ∷ h.r4 ∷ h.r5 ∷ []; score = strength_by (ranking_of deck) h }

-- "the best of the 21 choices of five among two hole and five board cards"
unfoldable pub best_of_two : ℕ → List ℕ → List ℕ → Best
best_of_two deck d k =
    shown_as deck (best_of (ranking_of deck) (get_or d 0 0 ∷ get_or d 1 0 ∷ get_or k 0 0 ∷ get_or k 1 0 ∷ get_or k 2 0 ∷ get_or k 3 0 ∷ get_or k 4 0 ∷ []))

-- No. 5: two of four hole cards with three of the board
unfoldable pub best_of_four : ℕ → List ℕ → List ℕ → Best
best_of_four deck d k = shown_as deck (best_among (ranking_of deck) (from_both 2 3 d k))

unfoldable pub best_with : ℕ → ℕ → Board → Hole → Best
best_with deck game b h = pick (eqb game 4) (best_of_four deck h.cards b.cards) (best_of_two deck h.cards b.cards)

-- a hand is looked at where it is live with all its cards and the board lies; not where one hand alone is live, which needs no cards
unfoldable pub looked_at : Bool → Bool → ℕ → ℕ → ℕ → Bool
looked_at live alone held game count = both (both live (not alone)) (both (eqb held game) (eqb count 5))

unfoldable pub best_at : Table → Chair → Bool → Option Best
best_at t c alone =
    pick (looked_at c.dealt.live alone c.hole.count t.sheet.game t.board.count) (Some (best_with t.sheet.deck t.sheet.game t.board c.hole)) None

-- the sitting that was dealt in at a chair: `low` is the highest contested height, so what lies above it goes back
unfoldable pub part_with : Chair → ℕ → List ℕ → Option Ending → ℕ → Option Best → ℕ → Part
part_with c before rounds ended low best paid = record {
  sitting = c.dealt.sitting;
  before = before;
  rounds = rounds;
  back = c.dealt.total - low;
  ended = ended;
  here = eqb c.sitting c.dealt.sitting;
  now = c.sitting;
  held = c.hole.count;
  cards = c.hole.cards;
  best = best;
  paid = paid;
}

unfoldable pub part_at : Notes → Table → ℕ → Bool → Chair → ℕ → ℕ → Part
part_at m t low alone c i paid = part_with c (get_or m.before i 0) (rounds_at m.rounds i) (get_or m.ended i None) low (best_at t c alone) paid

-- the sittings of the chairs from place i on
abbrev pub parts_from : Notes → Table → ℕ → Bool → List ℕ → ℕ → List Chair → List Part
parts_from m t low alone paid i [] = []
parts_from m t low alone paid i (c ∷ cs) = part_at m t low alone c i (get_or paid i 0) ∷ parts_from m t low alone paid (suc i) cs

abbrev pub score_of : Option Best → ℕ
score_of None = 0
score_of (Some b) = b.score

abbrev pub score_in : Part → ℕ
score_in q = score_of q.best

-- the chips of the open hand: what each sitting that was dealt in put in, who is live and who is still there, the pots and what goes back
unfoldable pub chips_shown : Notes → Table → Chips
chips_shown m t = record {
  hand = m.hands;
  columns = count_by (ltb 0) (map (column_of Sitting) t.chairs);
  totals = map (column_of Total) t.chairs;
  sittings = map (column_of Sitting) t.chairs;
  live = mask_at (map (column_of Live) t.chairs) 1;
  here = mask_at (map (column_of Here) t.chairs) 1;
  pots = record { n = length (pots_now t); list = padded 9 (pots_now t) };
  back = back_now t;
}

-- what each was paid: nothing, where the hand is not settled
abbrev pub each_paid : Option Payout → List ℕ
each_paid None = replicate 10 0
each_paid (Some p) = p.paid

abbrev pub charged_by : Option Payout → Option Charged
charged_by None = None
charged_by (Some p) = Some (record { fee = p.fee; drop = p.drop; unclaimed = p.unclaimed })

-- the sittings of the hand: what lies above all its pots goes back; no cards are looked at before the settle, nor where one hand alone is live
abbrev pub parts_shown : Notes → Table → Option Payout → Chips → List Part
parts_shown m t paid chips =
    parts_from m t (reach_of_first chips.totals chips.pots chips.pots.n) (either (is_none paid) (sole 10 chips.live)) (each_paid paid) 0 t.chairs

-- the hand with its chips, its sittings, and what the payout says, where it is settled
unfoldable pub hand_shown : Notes → Table → Option Payout → SectionHand
hand_shown m t paid = record {
  chips = chips_shown m t;
  parts = parts_shown m t paid (chips_shown m t);
  scores = map score_in (parts_shown m t paid (chips_shown m t));
  charged = charged_by paid;
}
