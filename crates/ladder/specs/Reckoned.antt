-- No section of the paper: how the code finds a hand's place without a ladder. The hands that stand lower are counted: those of lower classes,
-- nine constants, and those of its own class, by the number of choices of k ranks of n. A hand whose ranks are not those of its class has
-- no place. proofs/Reckons.antt shows that this is the place on the ladder. Assumes nothing.
use Rattle.std.specs.Prelude.{Bool, List, [], ◌∷◌, ℕ, ◌+◌, ◌-◌, ◌*◌, eqb, ltb, leb, get_or}
use Rattle.laws.specs.Tests.{one, both, either, pick}
use Rattle.cards.specs.Cards.{in_row}
use Rattle.cards.specs.declared.Hand.{Hand}
use Rattle.ladder.specs.Ladder.{ranks_in, is_straight}

-- how many choices of k there are of n, for n from 0 to 12, row by row from k = 0 to k = 5 (proofs/Steps.antt: these are the binomials)
abbrev pub pascal : List ℕ
pascal =
    1 ∷ 1 ∷ 1 ∷ 1 ∷ 1 ∷ 1 ∷ 1 ∷ 1 ∷ 1 ∷ 1 ∷ 1 ∷ 1 ∷ 1
    ∷ 0 ∷ 1 ∷ 2 ∷ 3 ∷ 4 ∷ 5 ∷ 6 ∷ 7 ∷ 8 ∷ 9 ∷ 10 ∷ 11 ∷ 12
    ∷ 0 ∷ 0 ∷ 1 ∷ 3 ∷ 6 ∷ 10 ∷ 15 ∷ 21 ∷ 28 ∷ 36 ∷ 45 ∷ 55 ∷ 66
    ∷ 0 ∷ 0 ∷ 0 ∷ 1 ∷ 4 ∷ 10 ∷ 20 ∷ 35 ∷ 56 ∷ 84 ∷ 120 ∷ 165 ∷ 220
    ∷ 0 ∷ 0 ∷ 0 ∷ 0 ∷ 1 ∷ 5 ∷ 15 ∷ 35 ∷ 70 ∷ 126 ∷ 210 ∷ 330 ∷ 495
    ∷ 0 ∷ 0 ∷ 0 ∷ 0 ∷ 0 ∷ 1 ∷ 6 ∷ 21 ∷ 56 ∷ 126 ∷ 252 ∷ 462 ∷ 792
    ∷ []

-- how many choices of k there are of n; 0 where n is above 12
unfoldable pub chosen_of : ℕ → ℕ → ℕ
chosen_of n k = pick (ltb n 13) (get_or pascal (13 * k + n) 0) 0

-- a rank, counted from 0 for the two
abbrev pub up : ℕ → ℕ
up r = r - 2

-- a rank so counted, among those that are not used
unfoldable pub less : ℕ → ℕ → ℕ
less x used = x - one (ltb used x)

-- how many choices of as many ranks stand below these, counted from 0, which fall
unfoldable pub two_below : ℕ → ℕ → ℕ
two_below a b = chosen_of a 2 + chosen_of b 1

unfoldable pub three_below : ℕ → ℕ → ℕ → ℕ
three_below a b c = chosen_of a 3 + two_below b c

unfoldable pub five_below : ℕ → ℕ → ℕ → ℕ → ℕ → ℕ
five_below a b c d e = chosen_of a 5 + (chosen_of b 4 + three_below c d e)

-- the ranks of the list fall from below x, and the last is the two or above it
abbrev pub falling_from : ℕ → List ℕ → Bool
falling_from x [] = ltb 1 x
falling_from x (y ∷ l) = both (ltb y x) (falling_from y l)

-- they are ranks, and fall
abbrev pub falling : List ℕ → Bool
falling l = falling_from 15 l

-- two ranks differ
abbrev pub apart : ℕ → ℕ → Bool
apart x y = either (ltb x y) (ltb y x)

-- ---- the place of a hand of a class, told how many stand in the classes under it; 0 where its ranks are not those of the class
unfoldable pub row_place : ℕ → Hand → ℕ
row_place under h = pick (both (in_row (ranks_in h)) (both (leb 5 h.r1) (leb h.r1 14))) (under + (h.r1 - 4)) 0

-- a rank held three or four times, and another
unfoldable pub beside_place : ℕ → ℕ → ℕ → ℕ
beside_place under r s = pick (both (falling (r ∷ [])) (both (falling (s ∷ [])) (apart r s))) (under + (12 * up r + less (up s) (up r) + 1)) 0

unfoldable pub four_place : ℕ → Hand → ℕ
four_place under h = pick (both (eqb h.r1 h.r2) (both (eqb h.r1 h.r3) (eqb h.r1 h.r4))) (beside_place under h.r1 h.r5) 0

unfoldable pub full_place : ℕ → Hand → ℕ
full_place under h = pick (both (eqb h.r1 h.r2) (both (eqb h.r1 h.r3) (eqb h.r4 h.r5))) (beside_place under h.r1 h.r5) 0

-- how many straights stand below five odd ranks, told of the highest: one for each lower rank from the six on; and 5-4-3-2-A below every ace
unfoldable pub rows_below : ℕ → ℕ
rows_below r = pick (eqb r 14) (r - 6 + 1) (r - 6)

unfoldable pub odd_place : ℕ → Hand → ℕ
odd_place under h =
    pick (is_straight (ranks_in h)) 0
    (pick (falling (ranks_in h)) (under + (five_below (up h.r1) (up h.r2) (up h.r3) (up h.r4) (up h.r5) + 1 - rows_below h.r1)) 0)

unfoldable pub three_place : ℕ → Hand → ℕ
three_place under h =
    pick
    (both (both (eqb h.r1 h.r2) (eqb h.r1 h.r3))
    (both (both (falling (h.r1 ∷ [])) (falling (h.r4 ∷ h.r5 ∷ [])))
    (both (apart h.r1 h.r4) (apart h.r1 h.r5))))
    (under + (66 * up h.r1 + two_below (less (up h.r4) (up h.r1)) (less (up h.r5) (up h.r1)) + 1)) 0

unfoldable pub two_pair_place : ℕ → Hand → ℕ
two_pair_place under h =
    pick
    (both (both (eqb h.r1 h.r2) (eqb h.r3 h.r4))
    (both (both (falling (h.r1 ∷ h.r3 ∷ [])) (falling (h.r5 ∷ [])))
    (both (apart h.r5 h.r1) (apart h.r5 h.r3))))
    (under + (11 * two_below (up h.r1) (up h.r3) + less (less (up h.r5) (up h.r1)) (up h.r3) + 1)) 0

unfoldable pub pair_place : ℕ → Hand → ℕ
pair_place under h =
    pick
    (both (eqb h.r1 h.r2)
    (both (both (falling (h.r1 ∷ [])) (falling (h.r3 ∷ h.r4 ∷ h.r5 ∷ [])))
    (both (apart h.r1 h.r3) (both (apart h.r1 h.r4) (apart h.r1 h.r5)))))
    (under + (220 * up h.r1 + three_below (less (up h.r3) (up h.r1)) (less (up h.r4) (up h.r1)) (less (up h.r5) (up h.r1)) + 1)) 0

-- by the class, each with how many stand in the classes under it
unfoldable pub reckoned_as : ℕ → Hand → ℕ
reckoned_as class h =
    pick (eqb class 0) (row_place 7452 h)
    (pick (eqb class 1) (four_place 7296 h)
    (pick (eqb class 2) (full_place 7140 h)
    (pick (eqb class 3) (odd_place 5863 h)
    (pick (eqb class 4) (row_place 5853 h)
    (pick (eqb class 5) (three_place 4995 h)
    (pick (eqb class 6) (two_pair_place 4137 h)
    (pick (eqb class 7) (pair_place 1277 h)
    (pick (eqb class 8) (odd_place 0 h) 0))))))))

abbrev pub reckoned : Hand → ℕ
reckoned h = reckoned_as h.class h
