-- Document 01, "Examples both ways": P1 to P12 as one table, with the test that each row has to pass. Rows of requests No. 2 and No. 3 stand beside those of the
-- paper that they follow. Lists of entries have the newest first. Assumes nothing.
use Rattle.std.specs.Prelude.{ℕ, ◌+◌, ◌*◌, ◌-◌, Bool, true, not, List, [], ◌∷◌, ◌++◌, map, eqb, ltb, length, get_or}
use Rattle.laws.specs.Tests.{both}
use Rattle.paper.specs.declared.Sheet.{Sheet}
use Rattle.paper.specs.declared.Entry.{Entry}
use Rattle.paper.specs.declared.Entry.TheVariants.{Sit, Hand, Call, Wager}
use Rattle.cards.specs.Cards.{same_list}
use Rattle.cards.specs.Hands.{value_of}
use Rattle.cards.specs.Order.{ranking52, key, beats_by, best_of}
use Rattle.pots.specs.Heights.{back_of, returned_of}
use Rattle.pots.specs.Runs.{pots_of}
use Rattle.pots.specs.Settle.{fees_of, shares_of}
use Rattle.pots.specs.declared.Commission.{Commission}
use Rattle.pots.specs.declared.Pot.{Pot}
use Rattle.chairs.specs.Chairs.{round_of}
use Rattle.table.specs.State.{seat_of}
use Rattle.table.specs.Take.{code_of}
use Rattle.desk.specs.Log.{output_of}
use Rattle.history.specs.History.{run}

-- ---- rows
pub data Example : Type 0 where
  -- the first five cards beat the second
  wins : List ℕ → List ℕ → Example
  -- the two tie
  ties : List ℕ → List ℕ → Example
  -- the five cards are of the class
  is : List ℕ → ℕ → Example
  -- the five cards beat every hand of the class
  wins_all : List ℕ → ℕ → Example
  -- the best of the cards is worth what the five are
  best : List ℕ → List ℕ → Example
  -- the definitions give these numbers (bytes too), and the document says those
  gives : List ℕ → List ℕ → Example

abbrev pub passes : Example → Bool
passes (wins a b) = beats_by ranking52 (value_of ranking52 a) (value_of ranking52 b)
passes (ties a b) = both (not (beats_by ranking52 (value_of ranking52 a) (value_of ranking52 b))) (not (beats_by ranking52 (value_of ranking52 b) (value_of ranking52 a)))
passes (is a k) = eqb (value_of ranking52 a).class k
passes (wins_all a k) = ltb (get_or ranking52.places k 0) (get_or ranking52.places (value_of ranking52 a).class 0)
passes (best a b) = same_list (key ranking52 (best_of ranking52 a)) (key ranking52 (value_of ranking52 b))
passes (gives got want) = same_list got want

abbrev pub all_pass : List Example → Bool
all_pass [] = true
all_pass (r ∷ rs) = both (passes r) (all_pass rs)

-- ---- what the rows need

-- the card of a rank and a suit
abbrev card : ℕ → ℕ → ℕ
card r s = 4 * (r - 2) + s

abbrev amounts : List ℕ → ℕ → List ℕ
amounts ts live = map (λ (p : Pot). p.amount) (pots_of ts live)

abbrev less : List ℕ → List ℕ → List ℕ
less [] ys = []
less (x ∷ xs) [] = x ∷ xs
less (x ∷ xs) (y ∷ ys) = (x - y) ∷ less xs ys

-- P7: totals 100, 40 and 200 live (bits 0, 1, 2) and 100 folded. P9: totals 100 and 100 dead, 40 live (bit 2)
abbrev seven : List ℕ
seven = 100 ∷ 40 ∷ 200 ∷ 100 ∷ []

abbrev nine : List ℕ
nine = 100 ∷ 100 ∷ 40 ∷ []

-- rate 50 and cap 15, with so small a chip and so many board cards
abbrev fifty : ℕ → ℕ → Commission
fifty step board = record { rate = 50; cap = 15; step = step; board = board; drop = 0 }

-- the fees of P7's pots with five board cards, and what remains of the pots
abbrev charged : ℕ → List ℕ
charged step =
    let fees = fees_of (fifty step 5) 15 (amounts seven 7) in
    fees ++ less (amounts seven 7) fees

abbrev sheet11 : Sheet
sheet11 = record { seats = 3; small = 5; big = 10; rate = 50; cap = 15; step = 1; game = 2; deck = 52; drop = 0 }

-- the mark, the lift, the seat's round total and stack, and the code of its wager to a
abbrev wagers : List Entry → ℕ → ℕ → List ℕ
wagers es x a =
    (run sheet11 es).play.mark
    ∷ (run sheet11 es).play.lift
    ∷ round_of (seat_of (run sheet11 es) x)
    ∷ (seat_of (run sheet11 es) x).stack
    ∷ code_of (run sheet11 es) (length es + 1) (Wager x a)
    ∷ []

-- seat 3, which sat down with k, is the first to act
abbrev opening : ℕ → List Entry
opening k = Hand 1 ∷ Sit 3 k ∷ Sit 2 500 ∷ Sit 1 500 ∷ []

-- No. 2: seat 3 calls the big blind, and seat 1 lifts the mark to 17 with its whole stack
abbrev short_lift : List Entry
short_lift = Wager 1 17 ∷ Call 3 ∷ Hand 1 ∷ Sit 3 500 ∷ Sit 2 500 ∷ Sit 1 17 ∷ []

-- P12, with the lines of requests No. 3, 5, 6 and 7, `step=1`, `game=2`, `deck=52` and `drop=0`, in its sheet: the log and the whole output, byte for byte
abbrev log12 : List ℕ
log12 =
    115 ∷ 101 ∷ 97 ∷ 116 ∷ 115 ∷ 61 ∷ 51 ∷ 10  -- seats=3
    ∷ 115 ∷ 109 ∷ 97 ∷ 108 ∷ 108 ∷ 61 ∷ 53 ∷ 10  -- small=5
    ∷ 98 ∷ 105 ∷ 103 ∷ 61 ∷ 49 ∷ 48 ∷ 10  -- big=10
    ∷ 114 ∷ 97 ∷ 116 ∷ 101 ∷ 61 ∷ 53 ∷ 48 ∷ 10  -- rate=50
    ∷ 99 ∷ 97 ∷ 112 ∷ 61 ∷ 49 ∷ 53 ∷ 10  -- cap=15
    ∷ 115 ∷ 116 ∷ 101 ∷ 112 ∷ 61 ∷ 49 ∷ 10  -- step=1
    ∷ 103 ∷ 97 ∷ 109 ∷ 101 ∷ 61 ∷ 50 ∷ 10  -- game=2
    ∷ 100 ∷ 101 ∷ 99 ∷ 107 ∷ 61 ∷ 53 ∷ 50 ∷ 10  -- deck=52
    ∷ 100 ∷ 114 ∷ 111 ∷ 112 ∷ 61 ∷ 48 ∷ 10  -- drop=0
    ∷ 110 ∷ 61 ∷ 49 ∷ 10  -- n=1
    ∷ 100 ∷ 111 ∷ 61 ∷ 115 ∷ 105 ∷ 116 ∷ 10  -- do=sit
    ∷ 115 ∷ 101 ∷ 97 ∷ 116 ∷ 61 ∷ 49 ∷ 10  -- seat=1
    ∷ 97 ∷ 61 ∷ 49 ∷ 48 ∷ 48 ∷ 10  -- a=100
    ∷ 98 ∷ 61 ∷ 48 ∷ 10  -- b=0
    ∷ 110 ∷ 61 ∷ 50 ∷ 10  -- n=2
    ∷ 100 ∷ 111 ∷ 61 ∷ 115 ∷ 105 ∷ 116 ∷ 10  -- do=sit
    ∷ 115 ∷ 101 ∷ 97 ∷ 116 ∷ 61 ∷ 50 ∷ 10  -- seat=2
    ∷ 97 ∷ 61 ∷ 49 ∷ 48 ∷ 48 ∷ 10  -- a=100
    ∷ 98 ∷ 61 ∷ 48 ∷ 10  -- b=0
    ∷ 110 ∷ 61 ∷ 51 ∷ 10  -- n=3
    ∷ 100 ∷ 111 ∷ 61 ∷ 104 ∷ 97 ∷ 110 ∷ 100 ∷ 10  -- do=hand
    ∷ 115 ∷ 101 ∷ 97 ∷ 116 ∷ 61 ∷ 49 ∷ 10  -- seat=1
    ∷ 97 ∷ 61 ∷ 48 ∷ 10  -- a=0
    ∷ 98 ∷ 61 ∷ 48 ∷ 10  -- b=0
    ∷ 110 ∷ 61 ∷ 52 ∷ 10  -- n=4
    ∷ 100 ∷ 111 ∷ 61 ∷ 102 ∷ 111 ∷ 108 ∷ 100 ∷ 10  -- do=fold
    ∷ 115 ∷ 101 ∷ 97 ∷ 116 ∷ 61 ∷ 49 ∷ 10  -- seat=1
    ∷ 97 ∷ 61 ∷ 48 ∷ 10  -- a=0
    ∷ 98 ∷ 61 ∷ 48 ∷ 10  -- b=0
    ∷ 110 ∷ 61 ∷ 53 ∷ 10  -- n=5
    ∷ 100 ∷ 111 ∷ 61 ∷ 115 ∷ 101 ∷ 116 ∷ 116 ∷ 108 ∷ 101 ∷ 10  -- do=settle
    ∷ 115 ∷ 101 ∷ 97 ∷ 116 ∷ 61 ∷ 48 ∷ 10  -- seat=0
    ∷ 97 ∷ 61 ∷ 48 ∷ 10  -- a=0
    ∷ 98 ∷ 61 ∷ 48 ∷ 10  -- b=0
    ∷ []

abbrev output12 : List ℕ
output12 =
    110 ∷ 61 ∷ 49 ∷ 10  -- n=1
    ∷ 99 ∷ 111 ∷ 100 ∷ 101 ∷ 61 ∷ 48 ∷ 10  -- code=0
    ∷ 116 ∷ 117 ∷ 114 ∷ 110 ∷ 61 ∷ 48 ∷ 10  -- turn=0
    ∷ 109 ∷ 97 ∷ 114 ∷ 107 ∷ 61 ∷ 48 ∷ 10  -- mark=0
    ∷ 98 ∷ 97 ∷ 99 ∷ 107 ∷ 61 ∷ 48 ∷ 10  -- back=0
    ∷ 110 ∷ 61 ∷ 50 ∷ 10  -- n=2
    ∷ 99 ∷ 111 ∷ 100 ∷ 101 ∷ 61 ∷ 48 ∷ 10  -- code=0
    ∷ 116 ∷ 117 ∷ 114 ∷ 110 ∷ 61 ∷ 48 ∷ 10  -- turn=0
    ∷ 109 ∷ 97 ∷ 114 ∷ 107 ∷ 61 ∷ 48 ∷ 10  -- mark=0
    ∷ 98 ∷ 97 ∷ 99 ∷ 107 ∷ 61 ∷ 48 ∷ 10  -- back=0
    ∷ 110 ∷ 61 ∷ 51 ∷ 10  -- n=3
    ∷ 99 ∷ 111 ∷ 100 ∷ 101 ∷ 61 ∷ 48 ∷ 10  -- code=0
    ∷ 116 ∷ 117 ∷ 114 ∷ 110 ∷ 61 ∷ 49 ∷ 10  -- turn=1
    ∷ 109 ∷ 97 ∷ 114 ∷ 107 ∷ 61 ∷ 49 ∷ 48 ∷ 10  -- mark=10
    ∷ 112 ∷ 111 ∷ 116 ∷ 61 ∷ 49 ∷ 48 ∷ 10  -- pot=10
    ∷ 98 ∷ 97 ∷ 99 ∷ 107 ∷ 61 ∷ 53 ∷ 10  -- back=5
    ∷ 110 ∷ 61 ∷ 52 ∷ 10  -- n=4
    ∷ 99 ∷ 111 ∷ 100 ∷ 101 ∷ 61 ∷ 48 ∷ 10  -- code=0
    ∷ 116 ∷ 117 ∷ 114 ∷ 110 ∷ 61 ∷ 48 ∷ 10  -- turn=0
    ∷ 109 ∷ 97 ∷ 114 ∷ 107 ∷ 61 ∷ 49 ∷ 48 ∷ 10  -- mark=10
    ∷ 112 ∷ 111 ∷ 116 ∷ 61 ∷ 49 ∷ 48 ∷ 10  -- pot=10
    ∷ 98 ∷ 97 ∷ 99 ∷ 107 ∷ 61 ∷ 53 ∷ 10  -- back=5
    ∷ 110 ∷ 61 ∷ 53 ∷ 10  -- n=5
    ∷ 99 ∷ 111 ∷ 100 ∷ 101 ∷ 61 ∷ 48 ∷ 10  -- code=0
    ∷ 116 ∷ 117 ∷ 114 ∷ 110 ∷ 61 ∷ 48 ∷ 10  -- turn=0
    ∷ 109 ∷ 97 ∷ 114 ∷ 107 ∷ 61 ∷ 48 ∷ 10  -- mark=0
    ∷ 98 ∷ 97 ∷ 99 ∷ 107 ∷ 61 ∷ 48 ∷ 10  -- back=0
    ∷ 102 ∷ 101 ∷ 101 ∷ 61 ∷ 48 ∷ 10  -- fee=0
    ∷ 115 ∷ 105 ∷ 116 ∷ 116 ∷ 105 ∷ 110 ∷ 103 ∷ 61 ∷ 49 ∷ 10  -- sitting=1
    ∷ 112 ∷ 97 ∷ 105 ∷ 100 ∷ 61 ∷ 48 ∷ 10  -- paid=0
    ∷ 115 ∷ 105 ∷ 116 ∷ 116 ∷ 105 ∷ 110 ∷ 103 ∷ 61 ∷ 50 ∷ 10  -- sitting=2
    ∷ 112 ∷ 97 ∷ 105 ∷ 100 ∷ 61 ∷ 49 ∷ 53 ∷ 10  -- paid=15
    ∷ 117 ∷ 110 ∷ 99 ∷ 108 ∷ 97 ∷ 105 ∷ 109 ∷ 101 ∷ 100 ∷ 61 ∷ 48 ∷ 10  -- unclaimed=0
    ∷ []

-- ---- the table

abbrev pub twelve : List Example
twelve =
    -- P1: A-2-3-4-5 loses to 2-3-4-5-6
    wins (card 2 1 ∷ card 3 0 ∷ card 4 2 ∷ card 5 3 ∷ card 6 0 ∷ []) (card 14 0 ∷ card 2 0 ∷ card 3 1 ∷ card 4 1 ∷ card 5 2 ∷ [])
    -- P2: Q-K-A-2-3 in mixed suits is five odd cards
    ∷ is (card 12 0 ∷ card 13 1 ∷ card 14 2 ∷ card 2 3 ∷ card 3 0 ∷ []) 8
    -- P3: K-K-K-Q-Q beats any flush that isn't straight
    ∷ wins_all (card 13 0 ∷ card 13 1 ∷ card 13 2 ∷ card 12 0 ∷ card 12 3 ∷ []) 3
    -- P4: equal ranks in other suits, no flush: a tie
    ∷ ties (card 14 0 ∷ card 10 1 ∷ card 8 2 ∷ card 4 3 ∷ card 2 0 ∷ []) (card 2 1 ∷ card 4 0 ∷ card 8 1 ∷ card 10 0 ∷ card 14 3 ∷ [])
    -- P5: K K 9 9 4 4 A gives K-K-9-9-A
    ∷ best (card 13 0 ∷ card 13 1 ∷ card 9 0 ∷ card 9 1 ∷ card 4 2 ∷ card 4 3 ∷ card 14 0 ∷ []) (card 13 0 ∷ card 13 1 ∷ card 9 0 ∷ card 9 1 ∷ card 14 0 ∷ [])
    -- P6: 8 8 8 5 5 5 2 gives 8-8-8-5-5
    ∷ best (card 8 0 ∷ card 8 1 ∷ card 8 2 ∷ card 5 0 ∷ card 5 1 ∷ card 5 2 ∷ card 2 3 ∷ []) (card 8 0 ∷ card 8 1 ∷ card 8 2 ∷ card 5 0 ∷ card 5 1 ∷ [])
    -- P7: pots 160 and 180, back 100; all three live sittings' (1 + 2 + 4), and the first and the third's (1 + 4)
    ∷ gives (amounts seven 7 ++ (back_of seven 7 ∷ [])) (160 ∷ 180 ∷ 100 ∷ [])
    ∷ gives (map (λ (p : Pot). p.who) (pots_of seven 7)) (7 ∷ 5 ∷ [])
    -- P8: P7 with rate 50, cap 15: fees 8 and 7; 152 and 173 remain. No. 3: "P8 with step 5 gives fees 5 and 5"; no board card, no commission
    ∷ gives (charged 1) (8 ∷ 7 ∷ 152 ∷ 173 ∷ [])
    ∷ gives (charged 5) (5 ∷ 5 ∷ 155 ∷ 175 ∷ [])
    ∷ gives (fees_of (fifty 1 0) 15 (amounts seven 7)) (0 ∷ 0 ∷ [])
    -- P9: pot 120, back 120 (60 each)
    ∷ gives (amounts nine 4 ++ (back_of nine 4 ∷ map (returned_of nine 4) nine)) (120 ∷ 120 ∷ 60 ∷ 60 ∷ 0 ∷ [])
    -- P10: 173 shared by seats 1 and 3 (1 + 4), puck 3: seat 1 has 87, seat 3 has 86. With puck 1 the odd unit is seat 3's: clockwise from the seat after the puck
    ∷ gives (shares_of 3 173 5 3) (87 ∷ 0 ∷ 86 ∷ [])
    ∷ gives (shares_of 3 173 5 1) (86 ∷ 0 ∷ 87 ∷ [])
    -- P11: mark 10, lift 10, round total 0, stack 500: to 19 gives 7, to 20 is taken
    ∷ gives (wagers (opening 500) 3 19) (10 ∷ 10 ∷ 0 ∷ 500 ∷ 7 ∷ [])
    ∷ gives (wagers (opening 500) 3 20) (10 ∷ 10 ∷ 0 ∷ 500 ∷ 0 ∷ [])
    -- with stack 17, to 17 is taken and the next ordinary wager is to 27
    ∷ gives (wagers (opening 17) 3 16) (10 ∷ 10 ∷ 0 ∷ 17 ∷ 7 ∷ [])
    ∷ gives (wagers (opening 17) 3 17) (10 ∷ 10 ∷ 0 ∷ 17 ∷ 0 ∷ [])
    ∷ gives (wagers (Wager 3 17 ∷ opening 17) 1 26) (17 ∷ 10 ∷ 5 ∷ 495 ∷ 7 ∷ [])
    ∷ gives (wagers (Wager 3 17 ∷ opening 17) 1 27) (17 ∷ 10 ∷ 5 ∷ 495 ∷ 0 ∷ [])
    -- No. 2: so for a seat that hasn't acted; one that called before the short lift gets 7, whole stack or not
    ∷ gives (wagers short_lift 2 26) (17 ∷ 10 ∷ 10 ∷ 490 ∷ 7 ∷ [])
    ∷ gives (wagers short_lift 2 27) (17 ∷ 10 ∷ 10 ∷ 490 ∷ 0 ∷ [])
    ∷ gives (wagers (Call 2 ∷ short_lift) 3 27) (17 ∷ 10 ∷ 10 ∷ 490 ∷ 7 ∷ [])
    ∷ gives (wagers (Call 2 ∷ short_lift) 3 500) (17 ∷ 10 ∷ 10 ∷ 490 ∷ 7 ∷ [])
    -- P12
    ∷ gives (output_of log12) output12
    ∷ []
