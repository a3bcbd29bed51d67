-- Document 01, the words of "Sittings", "Opening" and "Betting" that are about one chair: dealt in, live, a live seat with chips, round total, owes;
-- what befalls a chair; and over the chairs of a table, of any number: counts, the chair of a seat, the first seat clockwise. Assumes nothing.
use Rattle.std.specs.Prelude.{ℕ, zero, suc, ◌+◌, ◌-◌, ◌≤◌, ◌<◌, min, ◌≡◌, Bool, true, false, not, List, [], ◌∷◌, ◌++◌, get_or, set, take, replicate, ltb, eqb}
use Rattle.std.specs.List.{list_any}
use Rattle.laws.specs.Tests.{both, pick, one}
use Rattle.chairs.specs.declared.Chair.{Chair}
use Rattle.chairs.specs.declared.Dealt.{Dealt}
use Rattle.chairs.specs.declared.Hole.{Hole}
use Rattle.chairs.specs.Who.{Who, Live, LiveWithChips, Chips, Owing, Holding, Bare}
use Rattle.chairs.specs.Sweep.{Sweep, Again, Round, Deal}
use Rattle.chairs.specs.What.{What}
use Rattle.chairs.specs.What as col

-- Opening: dealt in is every seat with at least one chip
abbrev pub is_dealt_in : Chair → Bool
is_dealt_in c = ltb 0 c.stack

-- Betting: a live seat with chips
abbrev pub is_live_with_chips : Chair → Bool
is_live_with_chips c = both c.dealt.live (ltb 0 c.stack)

-- the round total: what the sitting has put in since the round opened
abbrev pub round_of : Chair → ℕ
round_of c = c.dealt.total - c.dealt.start

-- Betting: a seat owes if it is live, has chips, hasn't acted since the last wager of this round by another (and two hands or more are live: the
-- table counts them); but the only live seat with chips (`alone`) owes nothing once its round total equals the mark
abbrev pub is_owing : ℕ → Bool → Chair → Bool
is_owing mark alone c = both (is_live_with_chips c) (both (not c.dealt.acted) (not (both alone (eqb (round_of c) mark))))

-- the hole cards that were entered
abbrev pub hole_of : Chair → List ℕ
hole_of c = take c.hole.count c.hole.cards

-- a card is among some
abbrev pub has_card : ℕ → List ℕ → Bool
has_card k xs = list_any (λ x. eqb x k) xs

-- the card was entered for this hand: also where it is folded, or its sitting gone
abbrev pub is_holding : ℕ → Chair → Bool
is_holding k c = has_card k (hole_of c)

-- No. 5: all hole cards were entered that a hand of the game has
abbrev pub is_full : ℕ → Chair → Bool
is_full game c = eqb c.hole.count game

-- a live hand whose cards were not all entered
abbrev pub is_bare : ℕ → Chair → Bool
is_bare game c = both c.dealt.live (not (is_full game c))

abbrev pub want_of : Who → Chair → Bool
want_of Live c = c.dealt.live
want_of LiveWithChips c = is_live_with_chips c
want_of Chips c = is_dealt_in c
want_of (Owing mark alone) c = is_owing mark alone c
want_of (Holding card) c = is_holding card c
want_of (Bare game) c = is_bare game c

-- the record of nobody, and no cards
abbrev pub no_dealt : Dealt
no_dealt = record { sitting = 0; total = 0; start = 0; live = false; acted = false; spent = false }

abbrev pub no_hole : Hole
no_hole = record { count = 0; cards = replicate 4 0 }

abbrev pub no_chair : Chair
no_chair = record { sitting = 0; stack = 0; dealt = no_dealt; hole = no_hole }

abbrev pub count_of : (Chair → Bool) → List Chair → ℕ
count_of p [] = 0
count_of p (c ∷ cs) = one (p c) + count_of p cs

-- the chair of seat s (seats are counted from 1)
abbrev pub chair_at : List Chair → ℕ → Chair
chair_at cs zero = no_chair
chair_at cs (suc k) = get_or cs k no_chair

-- the chairs with c at seat s
abbrev pub put_at : List Chair → ℕ → Chair → List Chair
put_at cs zero c = cs
put_at cs (suc k) c = set cs k c

-- the chairs above seat n are chairs that nobody ever had; of ten chairs the first n are a table's seats
abbrev pub Above : ℕ → List Chair → Type 0
Above n cs = (s : ℕ) → n < s → chair_at cs s ≡ no_chair

pub record Seats (n : ℕ) (cs : List Chair) : Type 0 where
  pub few : n ≤ 10
  pub above : Above n cs

-- the m seats after seat k
abbrev pub seats_from : ℕ → ℕ → List ℕ
seats_from k zero = []
seats_from k (suc m) = suc k ∷ seats_from (suc k) m

-- Opening: clockwise is rising number, wrapping. The seats from the one after s on; s comes last
abbrev pub clockwise : ℕ → ℕ → List ℕ
clockwise n s = seats_from s (n - s) ++ seats_from 0 s

-- the first of some seats that is as asked, or 0
abbrev pub first_of : (Chair → Bool) → List Chair → List ℕ → ℕ
first_of p cs [] = 0
first_of p cs (s ∷ ss) = pick (p (chair_at cs s)) s (first_of p cs ss)

-- all chips: the stacks, and what was put into the open hand
abbrev pub chips_of : List Chair → ℕ
chips_of [] = 0
chips_of (c ∷ cs) = c.stack + c.dealt.total + chips_of cs

-- a chair with another hand record
abbrev pub with_dealt : Chair → Dealt → Chair
with_dealt c d = record { sitting = c.sitting; stack = c.stack; dealt = d; hole = c.hole }

-- the hand is given up
abbrev pub folded_of : Chair → Chair
folded_of c = with_dealt c (record { sitting = c.dealt.sitting; total = c.dealt.total; start = c.dealt.start; live = false; acted = c.dealt.acted; spent = c.dealt.spent })

-- whether the hand has acted since the last wager by another, and whether its right to raise is spent (No. 2): the seat "made the last full lift or
-- acted since it (or since the round opened, if none came)"
abbrev pub acts_of : Bool → Bool → Chair → Chair
acts_of b d c = with_dealt c (record { sitting = c.dealt.sitting; total = c.dealt.total; start = c.dealt.start; live = c.dealt.live; acted = b; spent = d })

-- the hand has acted: checked, called or wagered
abbrev pub acted_of : Chair → Chair
acted_of c = acts_of true true c

-- another has wagered since. A full lift is a last one that the hand has not acted since; after a short one the last full lift is the one before
abbrev pub again_of : Bool → Chair → Chair
again_of full c = acts_of false (both c.dealt.spent (not full)) c

-- a seat puts in a, or its whole stack where that is less
abbrev pub paid_of : Chair → ℕ → Chair
paid_of c a = record {
  sitting = c.sitting;
  stack = c.stack - min a c.stack;
  dealt = record { sitting = c.dealt.sitting; total = c.dealt.total + min a c.stack; start = c.dealt.start; live = c.dealt.live; acted = c.dealt.acted; spent = c.dealt.spent };
  hole = c.hole;
}

-- Sittings, another sitting at a chair: the hand record that lies there stays that of the old one, so that a newcomer starts with no total, cards or debt
abbrev pub seated_of : Chair → ℕ → ℕ → Chair
seated_of c k a = record { sitting = k; stack = a; dealt = c.dealt; hole = c.hole }

-- Betting, a new round: the round total is 0, and the hand hasn't acted; no full lift came yet
abbrev pub rounded_of : Chair → Chair
rounded_of c = with_dealt c (record { sitting = c.dealt.sitting; total = c.dealt.total; start = c.dealt.total; live = c.dealt.live; acted = false; spent = false })

-- Opening, a new hand: a seat that is dealt in is live, and has put in nothing; no cards are entered
abbrev pub dealt_of : Chair → Chair
dealt_of c = record {
  sitting = c.sitting;
  stack = c.stack;
  dealt = record { sitting = pick (is_dealt_in c) c.sitting 0; total = 0; start = 0; live = is_dealt_in c; acted = false; spent = false };
  hole = no_hole;
}

abbrev pub sweep_of : Sweep → Chair → Chair
sweep_of (Again full) c = again_of full c
sweep_of Round c = rounded_of c
sweep_of Deal c = dealt_of c

-- No. 5: "each seat's record holds four cards, entered by two `hole` entries": the first pair, or the second behind it
abbrev pub hole_with : Hole → ℕ → ℕ → Hole
hole_with h a b =
    pick (eqb h.count 0) (record { count = 2; cards = a ∷ b ∷ 0 ∷ 0 ∷ [] })
    (record { count = 4; cards = get_or h.cards 0 0 ∷ get_or h.cards 1 0 ∷ a ∷ b ∷ [] })

-- two hole cards are entered
abbrev pub held_of : Chair → ℕ → ℕ → Chair
held_of c a b = record { sitting = c.sitting; stack = c.stack; dealt = c.dealt; hole = hole_with c.hole a b }

-- a sitting was dealt in, and it is still there
abbrev pub is_here : Chair → Bool
is_here c = both (ltb 0 c.dealt.sitting) (eqb c.sitting c.dealt.sitting)

abbrev pub column_of : What → Chair → ℕ
column_of col.Total c = c.dealt.total
column_of col.Sitting c = c.dealt.sitting
column_of col.Live c = one c.dealt.live
column_of col.Here c = one (is_here c)

-- the hand is closed: what is paid is added to the stack, and the record is cleared
abbrev pub closed_of : Chair → ℕ → Chair
closed_of c p = record { sitting = c.sitting; stack = c.stack + p; dealt = no_dealt; hole = no_hole }

abbrev pub close_all : List Chair → List ℕ → List Chair
close_all [] ps = []
close_all (c ∷ cs) [] = closed_of c 0 ∷ close_all cs []
close_all (c ∷ cs) (p ∷ ps) = closed_of c p ∷ close_all cs ps

-- the sitting that sits here, and the one that was dealt in here, are among the first k
pub record Numbered (k : ℕ) (c : Chair) : Type 0 where
  pub here : c.sitting ≤ k
  pub dealt : c.dealt.sitting ≤ k
