-- No section of the paper: the made-up hand that a line's numbers say, whether it is one that `pots` takes, and what `pots` says of it. Assumes nothing.
use Rattle.std.specs.Prelude.{Bool, List, [], ◌∷◌, ◌≡◌, ℕ, zero, suc, ◌+◌, ◌*◌, ◌≤◌, ◌<◌, ltb, leb, eqb, length, get_or}
use Rattle.laws.specs.Lists.{sum_of}
use Rattle.laws.specs.Tests.{both, pick}
use Rattle.pots.specs.Heights.{mask_at, back_of}
use Rattle.pots.specs.Runs.{pots_of, padded}
use Rattle.pots.specs.Hand.{fee_of_hand, drop_of_hand, due_of, paid_of, unclaimed_of}
use Rattle.pots.specs.declared.Commission.{Commission}
use Rattle.try_pots.specs.declared.hand.Hand.{Hand}
use Rattle.try_pots.specs.declared.lines.Told.{Told}

-- f of so many places, from a place on
abbrev pub listed : (ℕ → ℕ) → ℕ → ℕ → List ℕ
listed f i zero = []
listed f i (suc n) = f i ∷ listed f (suc i) n

-- the number for a seat in the list that begins at a place: 0 for the seats above the last
abbrev pub number_for : List ℕ → ℕ → ℕ → ℕ → ℕ
number_for nums from seats i = pick (ltb i seats) (get_or nums (from + i) 0) 0

-- that list, of ten seats
unfoldable pub column_of : List ℕ → ℕ → ℕ → List ℕ
column_of nums from seats = listed (number_for nums from seats) 0 10

-- how many seats a line of so many numbers is for: 0 where they are not two to ten, or the numbers are too few or too many
abbrev pub seats_by : ℕ → ℕ → ℕ
seats_by n count = pick (both (both (leb 2 n) (leb n 10)) (eqb count (7 + 4 * n))) n 0

unfoldable pub seats_of : List ℕ → ℕ → ℕ
seats_of nums count = seats_by (get_or nums 0 0) count

abbrev pub rule_of : List ℕ → Commission
rule_of nums = record { rate = get_or nums 2 0; cap = get_or nums 3 0; step = get_or nums 4 0; board = get_or nums 5 0; drop = get_or nums 6 0 }

-- the hand of so many seats, and of the line
abbrev pub hand_for : List ℕ → ℕ → Hand
hand_for nums seats = record {
  seats = seats;
  puck = get_or nums 1 0;
  rule = rule_of nums;
  totals = column_of nums 7 seats;
  live = mask_at (column_of nums (7 + seats) seats) 1;
  scores = column_of nums (7 + 2 * seats) seats;
  here = mask_at (column_of nums (7 + 3 * seats) seats) 1;
}

unfoldable pub hand_of : List ℕ → ℕ → Hand
hand_of nums count = hand_for nums (seats_of nums count)

-- it keeps the bounds that `pots` asks for
unfoldable pub is_fair : Hand → Bool
is_fair h =
    both (both (ltb 0 h.seats) (leb h.seats 10))
    (both (both (leb (sum_of h.totals) 100000000) (eqb (mask_at h.scores 100000001) 0))
    (both (both (leb h.rule.rate 100) (ltb 0 h.rule.step)) (leb h.puck 10)))

-- those bounds
pub record Fair (h : Hand) : Type 0 where
  pub seats : h.seats ≤ 10
  pub totals : sum_of h.totals ≤ 100000000
  pub rate : h.rule.rate ≤ 100
  pub step : 0 < h.rule.step
  pub puck : h.puck ≤ 10
  pub scores : (i : ℕ) → get_or h.scores i 0 ≤ 100000000

-- what `pots` says of it
pub record Tells (h : Hand) (t : Told) : Type 0 where
  pub n : t.pots.n ≡ length (pots_of h.totals h.live)
  pub few : t.pots.n ≤ 9
  pub list : t.pots.list ≡ padded 9 (pots_of h.totals h.live)
  pub back : t.back ≡ back_of h.totals h.live
  pub fee : t.fee ≡ fee_of_hand h.totals h.live h.rule
  pub drop : t.drop ≡ drop_of_hand h.totals h.live h.rule
  pub due : t.due ≡ due_of h.totals h.live h.scores h.rule h.puck
  pub paid : t.paid ≡ paid_of (due_of h.totals h.live h.scores h.rule h.puck) h.here
  pub unclaimed : t.unclaimed ≡ unclaimed_of (due_of h.totals h.live h.scores h.rule h.puck) h.here
