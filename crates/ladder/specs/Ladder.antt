-- Document 02, request No. 11, "Hands kept as a place": the classes of equal five-card hands that exist with 52 cards, top down, and the place of a
-- hand among them. Assumes nothing.
use Rattle.std.specs.Prelude.{Bool, false, not, ◌≡◌, List, [], ◌∷◌, ◌++◌, map, ℕ, suc, ◌-◌, eqb, length}
use Rattle.laws.specs.Tests.{either, pick}
use Rattle.laws.specs.Often.{tally, count}
use Rattle.std.specs.List.{list_any}
use Rattle.cards.specs.Cards.{same_list, in_row}
use Rattle.cards.specs.Hands.{hand, value_of}
use Rattle.cards.specs.Order.{ranking52, ranking_of, beats_by, choices, Tie, strength_by}
use Rattle.cards.specs.Reading.{any_above, any_twice}
use Rattle.cards.specs.declared.Hand.{Hand}
use Rattle.laws.specs.Listing.{each, those}

-- the ranks, from the ace down
abbrev pub ranks : List ℕ
ranks = 14 ∷ 13 ∷ 12 ∷ 11 ∷ 10 ∷ 9 ∷ 8 ∷ 7 ∷ 6 ∷ 5 ∷ 4 ∷ 3 ∷ 2 ∷ []

-- the ranks that are not among these
abbrev pub besides : List ℕ → List ℕ
besides used = those (λ r. eqb (count r used) 0) ranks

-- the highest ranks of the ten straights, from the one that is ace high down to 5-4-3-2-A, which ranks as five high
abbrev pub tops : List ℕ
tops = 14 ∷ 13 ∷ 12 ∷ 11 ∷ 10 ∷ 9 ∷ 8 ∷ 7 ∷ 6 ∷ 5 ∷ []

-- five ranks in a row
abbrev pub row_from : ℕ → List ℕ
row_from k = k ∷ (k - 1) ∷ (k - 2) ∷ (k - 3) ∷ (k - 4) ∷ []

abbrev pub rows : List (List ℕ)
rows = map row_from tops

-- five ranks that fall are a straight
abbrev pub is_straight : List ℕ → Bool
is_straight l = either (in_row l) (same_list l (14 ∷ 5 ∷ 4 ∷ 3 ∷ 2 ∷ []))

-- five different ranks that are no straight
abbrev pub odds : List (List ℕ)
odds = those (λ l. not (is_straight l)) (choices 5 ranks)

-- two of each
abbrev pub twice : List ℕ → List ℕ
twice [] = []
twice (r ∷ l) = r ∷ r ∷ twice l

abbrev pub straight_flushes : List Hand
straight_flushes = map (hand 0) rows

abbrev pub fours : List Hand
fours = each ranks (λ r. map (λ s. hand 1 (r ∷ r ∷ r ∷ r ∷ s ∷ [])) (besides (r ∷ [])))

abbrev pub fulls : List Hand
fulls = each ranks (λ r. map (λ s. hand 2 (r ∷ r ∷ r ∷ s ∷ s ∷ [])) (besides (r ∷ [])))

abbrev pub flushes : List Hand
flushes = map (hand 3) odds

abbrev pub straights : List Hand
straights = map (hand 4) rows

abbrev pub threes : List Hand
threes = each ranks (λ r. map (λ m. hand 5 (r ∷ r ∷ r ∷ m)) (choices 2 (besides (r ∷ []))))

abbrev pub two_pairs : List Hand
two_pairs = each (choices 2 ranks) (λ m. map (λ s. hand 6 (twice m ++ (s ∷ []))) (besides m))

abbrev pub pairs : List Hand
pairs = each ranks (λ r. map (λ m. hand 7 (r ∷ r ∷ m)) (choices 3 (besides (r ∷ []))))

abbrev pub odd_cards : List Hand
odd_cards = map (hand 8) odds

-- the nine classes, from the highest, each from its highest hand
abbrev pub classes : List (List Hand)
classes = straight_flushes ∷ fours ∷ fulls ∷ flushes ∷ straights ∷ threes ∷ two_pairs ∷ pairs ∷ odd_cards ∷ []

-- "that many classes of equal five-card hands exist with 52 cards": a hand for each, from the royal flush down
unfoldable pub ladder : List Hand
ladder = each classes (λ c. c)

-- a hand's ranks, and before them its class
abbrev pub ranks_in : Hand → List ℕ
ranks_in h = h.r1 ∷ h.r2 ∷ h.r3 ∷ h.r4 ∷ h.r5 ∷ []

abbrev pub listed : Hand → List ℕ
listed h = h.class ∷ ranks_in h

-- a hand stands on the ladder
unfoldable pub is_on : Hand → Bool
is_on h = list_any (λ g. same_list (listed h) (listed g)) ladder

-- of 52 cards, one hand beats another
abbrev pub beats52 : Hand → Hand → Bool
beats52 h g = beats_by ranking52 h g

-- "Keep a hand as its place": one more than how many stand below it; 0 where it does not stand on the ladder
unfoldable pub place_of : Hand → ℕ
place_of h = pick (is_on h) (suc (tally (beats52 h) ladder)) 0

-- what is kept of a hand of a sheet's deck: its place; "The 32-card deck keeps the old form", the number that class and ranks spell
unfoldable pub kept_of : ℕ → Hand → ℕ
kept_of deck h = pick (eqb deck 32) (strength_by (ranking_of deck) h) (place_of h)

-- of 52 cards, two hands tie
abbrev pub Tie52 : Hand → Hand → Type 0
Tie52 h g = Tie ranking52 h g

-- what five of the 52 cards are worth
abbrev pub worth52 : List ℕ → Hand
worth52 cards = value_of ranking52 cards

-- five different cards of 52
abbrev pub FiveCards : List ℕ → Type 0
FiveCards cards = (length cards ≡ 5) × (any_above cards ≡ false) × (any_twice cards ≡ false)

-- "for all valid hands": what some five different cards are worth
abbrev pub Valid : Hand → Type 0
Valid h = (cards : List ℕ) × FiveCards cards × (h ≡ worth52 cards)
