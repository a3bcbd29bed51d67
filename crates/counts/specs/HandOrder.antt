-- Document 01, "Hand order", by counting: how often each rank is held among all the cards and which ranks each suit has, and from that the class and the
-- ranks of the best five. No choice of five is looked at. proofs/Agree.antt: of seven different cards this is the best hand. Assumes nothing.
use Rattle.std.specs.Prelude.{Bool, List, [], ◌∷◌, map, ℕ, zero, suc, ◌+◌, eqb, ltb, leb, length, get_or, Ok, Err}
use Rattle.laws.specs.Tests.{both, either, pick}
use Rattle.laws.specs.Often.{count}
use Rattle.cards.specs.Cards.{rank, suit}
use Rattle.cards.specs.Hands.{hand}
use Rattle.cards.specs.Reading.{Reading, any_above, any_twice}
use Rattle.cards.specs.declared.Hand.{Hand}
use Rattle.cards.specs.declared.asked.NoHand.TheVariants.{NoCard, Repeat}

-- the numbers below n that pass a test, from high to low
unfoldable pub passing : ℕ → (ℕ → Bool) → List ℕ
passing zero p = []
passing (suc n) p = pick (p n) (n ∷ passing n p) (passing n p)

-- the first of some numbers from high to low; 0, which is no rank, where there are none
abbrev pub highest : List ℕ → ℕ
highest l = get_or l 0 0

-- the numbers but one
unfoldable pub leaving : ℕ → List ℕ → List ℕ
leaving r [] = []
leaving r (x ∷ l) = pick (eqb r x) (leaving r l) (x ∷ leaving r l)

-- there is such a rank
abbrev pub is_rank : ℕ → Bool
is_rank r = ltb 0 r

-- ---- what is counted
-- the ranks, up to the ace, that are held k times or more, from high to low
unfoldable pub held_times : ℕ → List ℕ → List ℕ
held_times k rs = passing 15 (λ r. leb k (count r rs))

-- the ranks of the cards of a suit
unfoldable pub of_suit : ℕ → List ℕ → List ℕ
of_suit s [] = []
of_suit s (c ∷ l) = pick (eqb s (suit c)) (rank c ∷ of_suit s l) (of_suit s l)

-- the ranks of a suit if there are five cards of it or more, else other ranks
abbrev pub if_five : List ℕ → List ℕ → List ℕ
if_five ss others = pick (leb 5 (length ss)) ss others

-- the ranks of the suit that five cards or more are of; none where there is no such suit
unfoldable pub flush_ranks : List ℕ → List ℕ
flush_ranks cards = if_five (of_suit 0 cards) (if_five (of_suit 1 cards) (if_five (of_suit 2 cards) (if_five (of_suit 3 cards) [])))

-- what is counted of some cards, each from high to low: the ranks of a flush, and the ranks held at least once, twice, three and four times
pub record Counts : Type 0 where
  pub flush : List ℕ
  pub once : List ℕ
  pub twice : List ℕ
  pub thrice : List ℕ
  pub fourfold : List ℕ

-- of the ranks of all cards, and of a flush
abbrev pub counts_by : List ℕ → List ℕ → Counts
counts_by ss rs =
    record { flush = held_times 1 ss; once = held_times 1 rs; twice = held_times 2 rs; thrice = held_times 3 rs; fourfold = held_times 4 rs }

unfoldable pub counts_of : List ℕ → Counts
counts_of cards = counts_by (flush_ranks cards) (map rank cards)

-- ---- five ranks in a row
-- a rank is there; an ace stands below the two as well
unfoldable pub is_there : List ℕ → ℕ → Bool
is_there rs r = either (ltb 0 (count r rs)) (both (eqb r 1) (ltb 0 (count 14 rs)))

-- five ranks in a row are there, of which k is the lowest
unfoldable pub is_row : List ℕ → ℕ → Bool
is_row rs k =
    both (is_there rs k) (both (is_there rs (k + 1)) (both (is_there rs (k + 2)) (both (is_there rs (k + 3)) (is_there rs (k + 4)))))

-- the lowest rank of the highest five in a row; 0 where there are none
unfoldable pub row_foot : List ℕ → ℕ
row_foot rs = highest (passing 15 (is_row rs))

-- five ranks in a row, down to k
abbrev pub rowed : ℕ → List ℕ
rowed k = (k + 4) ∷ (k + 3) ∷ (k + 2) ∷ (k + 1) ∷ k ∷ []

-- ---- the ranks that name a hand
module _ (n : Counts) where
  abbrev pub four_rank : ℕ
  four_rank = highest n.fourfold

  abbrev pub three_rank : ℕ
  three_rank = highest n.thrice

  -- the pair of a full house: a second three serves as well as a pair
  abbrev pub pair_beside : ℕ
  pair_beside = highest (leaving three_rank n.twice)

  abbrev pub pair_rank : ℕ
  pair_rank = highest n.twice

  abbrev pub second_pair : ℕ
  second_pair = highest (leaving pair_rank n.twice)

  -- the ranks beside a rank that is held more often; a third pair serves as well as a single card
  abbrev pub kickers : ℕ → List ℕ
  kickers r = leaving r n.once

  -- the four lowest classes: three, two pair, pair, five odd cards
  unfoldable pub low_named : Hand
  low_named =
      pick (is_rank three_rank) (hand 5 (three_rank ∷ three_rank ∷ three_rank ∷ kickers three_rank))
      (pick (is_rank second_pair) (hand 6 (pair_rank ∷ pair_rank ∷ second_pair ∷ second_pair ∷ leaving second_pair (kickers pair_rank)))
      (pick (is_rank pair_rank) (hand 7 (pair_rank ∷ pair_rank ∷ kickers pair_rank))
      (hand 8 n.once)))

  -- the first class, from high to low, of which there is a hand: straight flush, four of a kind, full house, flush, straight, and the rest
  unfoldable pub named : Hand
  named =
      pick (is_rank (row_foot n.flush)) (hand 0 (rowed (row_foot n.flush)))
      (pick (is_rank four_rank) (hand 1 (four_rank ∷ four_rank ∷ four_rank ∷ four_rank ∷ kickers four_rank))
      (pick (both (is_rank three_rank) (is_rank pair_beside)) (hand 2 (three_rank ∷ three_rank ∷ three_rank ∷ pair_beside ∷ pair_beside ∷ []))
      (pick (is_rank (highest n.flush)) (hand 3 n.flush)
      (pick (is_rank (row_foot n.once)) (hand 4 (rowed (row_foot n.once)))
      low_named))))

-- the hand that the counts name
unfoldable pub counted_hand : List ℕ → Hand
counted_hand cards = named (counts_of cards)

-- the answer about seven numbers: any above 51, then a repeat, else the hand
unfoldable pub counted_reading : List ℕ → Reading
counted_reading cards = pick (any_above cards) (Err NoCard) (pick (any_twice cards) (Err Repeat) (Ok (counted_hand cards)))
