-- The counts of seven ranks of which none is held five times name the best hand that their choices of five have by ranks alone. It is so for one list of each
-- of the 64 patterns of seven ranks that fall, by a test that antt computes, and every other is carried over from that one. Assumes nothing.
use mathlib.Core.Path.{◌≡◌, refl, sym, ap, ap₂, ◌∙◌, subst}
use mathlib.Core.Bool.{Bool, true, false}
use mathlib.Core.List.{List, [], ◌∷◌, map}
use Prim.Native.Nat.{ℕ, ◌<◌, ◌≤◌}
use native.Mathlib.Omega.{arith}
use lib.Dec.{ltb}
use lib.ListN.{length, get_or}
use borrow.Author.Tests.{ltb-true}
use Rattle.laws.specs.Tests.{both, either, pick}
use Rattle.laws.specs.Lists.{All}
use Rattle.laws.specs.Often.{count}
use Rattle.laws.proofs.Tests.{both_true}
use Rattle.cards.specs.Cards.{same_list, before, put, in_order, ordered}
use Rattle.cards.specs.Hands.{hand, class_of}
use Rattle.cards.specs.Order.{above, better_by, keep, choices}
use Rattle.cards.specs.Patterns.{neighbours}
use Rattle.cards.specs.declared.Hand.{Hand}
use Rattle.cards.proofs.Falls.{Falling}
use Rattle.laws.proofs.Members.{same_list_law}
use Rattle.cards.proofs.Scaled.{same_count, carried_at}
use Rattle.cards.proofs.Patterns.{Strict, dense, carry, all_of, each_of, neighbours_long}
use Rattle.counts.specs.HandOrder.{passing, highest, leaving, is_rank, held_times, Counts, counts_by, four_rank, three_rank, pair_beside, pair_rank, second_pair, kickers, low_named}
use Rattle.counts.proofs.Passing.{first_there}
use Rattle.counts.proofs.Counting.{held_often, leaving_carried, held_carried}
use Rattle.counts.proofs.Plainly.{plain_of, best_plain, carried, same_ltb, carried_hand, carried_pick, carried_best}

-- the hand that the counts name, straights and flushes aside
unfoldable pub plain_named : Counts → Hand
plain_named n =
    pick (is_rank (four_rank n)) (hand 1 (four_rank n ∷ four_rank n ∷ four_rank n ∷ four_rank n ∷ kickers n (four_rank n)))
    (pick (both (is_rank (three_rank n)) (is_rank (pair_beside n))) (hand 2 (three_rank n ∷ three_rank n ∷ three_rank n ∷ pair_beside n ∷ pair_beside n ∷ []))
    (low_named n))

-- ---- counts carried over
abbrev carried_counts : (ℕ → ℕ) → Counts → Counts
carried_counts f n =
    record { flush = map f n.flush; once = map f n.once; twice = map f n.twice; thrice = map f n.thrice; fourfold = map f n.fourfold }

module _ (f : ℕ → ℕ) (stays : f 0 ≡ 0) (strict : Strict f) where
  first_carried : (l : List ℕ) → highest (map f l) ≡ f (highest l)
  first_carried l = carried_at f stays strict l 0

  rank_carried : (x y : ℕ) → y ≡ f x → is_rank y ≡ is_rank x
  rank_carried x y e = ap is_rank e ∙ ap (λ (z : ℕ). ltb z (f x)) (sym stays) ∙ same_ltb f stays strict 0 x

  -- the first of the others
  other_carried : (r s : ℕ) (l : List ℕ) → s ≡ f r → leaving s (map f l) ≡ map f (leaving r l)
  other_carried r s l e = ap (λ (v : ℕ). leaving v (map f l)) e ∙ leaving_carried f stays strict r l

  pick_carried : (b d : Bool) (h g i j : Hand) → d ≡ b → i ≡ carried f h → j ≡ carried f g → pick d i j ≡ carried f (pick b h g)
  pick_carried b d h g i j e p q = ap (λ (c : Bool). pick c i j) e ∙ ap₂ (pick b) p q ∙ carried_pick f stays strict b h g

  module _ (n : Counts) where
    abbrev m : Counts
    m = carried_counts f n

    four_is : four_rank m ≡ f (four_rank n)
    four_is = first_carried n.fourfold

    three-is : three_rank m ≡ f (three_rank n)
    three-is = first_carried n.thrice

    pair_is : pair_rank m ≡ f (pair_rank n)
    pair_is = first_carried n.twice

    beside-is : pair_beside m ≡ f (pair_beside n)
    beside-is = ap highest (other_carried (three_rank n) (three_rank m) n.twice three-is) ∙ first_carried (leaving (three_rank n) n.twice)

    second_is : second_pair m ≡ f (second_pair n)
    second_is = ap highest (other_carried (pair_rank n) (pair_rank m) n.twice pair_is) ∙ first_carried (leaving (pair_rank n) n.twice)

    kickers-are : (r s : ℕ) → s ≡ f r → kickers m s ≡ map f (kickers n r)
    kickers-are r s e = other_carried r s n.once e

    low-carried : low_named m ≡ carried f (low_named n)
    unfolding low_named
    low-carried =
        pick_carried (is_rank (three_rank n)) (is_rank (three_rank m)) _ _ _ _ (rank_carried (three_rank n) (three_rank m) three-is)
        (ap₂ (λ (t : ℕ) (l : List ℕ). hand 5 (t ∷ t ∷ t ∷ l)) three-is (kickers-are (three_rank n) (three_rank m) three-is)
        ∙ carried_hand f stays strict 5 (three_rank n ∷ three_rank n ∷ three_rank n ∷ kickers n (three_rank n)))
        (pick_carried (is_rank (second_pair n)) (is_rank (second_pair m)) _ _ _ _ (rank_carried (second_pair n) (second_pair m) second_is)
        (ap₂ (λ (p : ℕ) (l : List ℕ). hand 6 (p ∷ p ∷ second_pair m ∷ second_pair m ∷ leaving (second_pair m) l)) pair_is (kickers-are (pair_rank n) (pair_rank m) pair_is)
        ∙ ap₂ (λ (q : ℕ) (l : List ℕ). hand 6 (f (pair_rank n) ∷ f (pair_rank n) ∷ q ∷ q ∷ l)) second_is (other_carried (second_pair n) (second_pair m) (kickers n (pair_rank n)) second_is)
        ∙ carried_hand f stays strict 6 (pair_rank n ∷ pair_rank n ∷ second_pair n ∷ second_pair n ∷ leaving (second_pair n) (kickers n (pair_rank n))))
        (pick_carried (is_rank (pair_rank n)) (is_rank (pair_rank m)) _ _ _ _ (rank_carried (pair_rank n) (pair_rank m) pair_is)
        (ap₂ (λ (p : ℕ) (l : List ℕ). hand 7 (p ∷ p ∷ l)) pair_is (kickers-are (pair_rank n) (pair_rank m) pair_is)
        ∙ carried_hand f stays strict 7 (pair_rank n ∷ pair_rank n ∷ kickers n (pair_rank n)))
        (carried_hand f stays strict 8 n.once)))

    plain_carried : plain_named m ≡ carried f (plain_named n)
    unfolding plain_named
    plain_carried =
        pick_carried (is_rank (four_rank n)) (is_rank (four_rank m)) _ _ _ _ (rank_carried (four_rank n) (four_rank m) four_is)
        (ap₂ (λ (t : ℕ) (l : List ℕ). hand 1 (t ∷ t ∷ t ∷ t ∷ l)) four_is (kickers-are (four_rank n) (four_rank m) four_is)
        ∙ carried_hand f stays strict 1 (four_rank n ∷ four_rank n ∷ four_rank n ∷ four_rank n ∷ kickers n (four_rank n)))
        (pick_carried (both (is_rank (three_rank n)) (is_rank (pair_beside n))) (both (is_rank (three_rank m)) (is_rank (pair_beside m))) _ _ _ _
        (ap₂ both (rank_carried (three_rank n) (three_rank m) three-is) (rank_carried (pair_beside n) (pair_beside m) beside-is))
        (ap₂ (λ (t p : ℕ). hand 2 (t ∷ t ∷ t ∷ p ∷ p ∷ [])) three-is beside-is
        ∙ carried_hand f stays strict 2 (three_rank n ∷ three_rank n ∷ three_rank n ∷ pair_beside n ∷ pair_beside n ∷ []))
        low-carried)

-- ---- one list of each pattern
-- a hand's class and ranks
abbrev listed : Hand → List ℕ
listed h = h.class ∷ h.r1 ∷ h.r2 ∷ h.r3 ∷ h.r4 ∷ h.r5 ∷ []

listed_same : (h g : Hand) → listed h ≡ listed g → h ≡ g
listed_same h g e = λ i. record {
  class = get_or (e i) 0 0;
  r1 = get_or (e i) 1 0;
  r2 = get_or (e i) 2 0;
  r3 = get_or (e i) 3 0;
  r4 = get_or (e i) 4 0;
  r5 = get_or (e i) 5 0;
}

-- all are below 15
abbrev all_low : List ℕ → Bool
all_low [] = true
all_low (x ∷ l) = both (ltb x 15) (all_low l)

low_all : (l : List ℕ) → all_low l ≡ true → All (λ x. x < 15) l
low_all [] e = tt
low_all (x ∷ l) e = let p = both_true (ltb x 15) (all_low l) e in (ltb-true x 15 p.0, low_all l p.1)

-- the counts name the best, unless a rank is held five times
right_seven : List Bool → Bool
right_seven bs =
    both (all_low (dense bs))
    (either (is_rank (highest (held_times 5 (dense bs)))) (same_list (listed (plain_named (counts_by [] (dense bs)))) (listed (best_plain (dense bs)))))

sevens_right : all_of 6 right_seven ≡ true
unfolding all_of right_seven dense plain_named low_named passing leaving held_times best_plain plain_of before put in_order ordered class_of above better_by keep choices
sevens_right = refl

either_next : (a b : Bool) → either a b ≡ true → (a ≡ true → ⊥) → b ≡ true
either_next true b e h = absurd (h refl)
either_next false b e h = e

pub seven_plain : (x : ℕ) (l ss : List ℕ) → length l ≡ 6 → Falling (x ∷ l) → All (λ y. 0 < y) (x ∷ l) → All (λ y. y < 15) (x ∷ l) → ((r : ℕ) → count r (x ∷ l) ≤ 4)
    → plain_named (counts_by ss (x ∷ l)) ≡ best_plain (x ∷ l)
unfolding plain_named low_named right_seven
seven_plain x l ss n falls some low few =
    let bs = neighbours (x ∷ l) in
    let c = carry x l falls some in
    let g = c.by in
    let d = dense bs in
    let p = both_true (all_low d) _ (each_of 6 right_seven sevens_right bs (neighbours_long x l ∙ n)) in
    let never : is_rank (highest (held_times 5 d)) ≡ true → ⊥ = λ e. (
    let r = highest (held_times 5 d) in
    let five : 5 ≤ count r d = held_often 5 d r (first_there (held_times 5 d) (ltb-true 0 r e)) in
    let same : count (g r) (x ∷ l) ≡ count r d = ap (count (g r)) (sym c.gives) ∙ same_count g c.none_stays c.strict r d in
    omega (arith, five, same, few (g r))
    ) in
    let right : plain_named (counts_by [] d) ≡ best_plain d = listed_same _ _ (same_list_law _ _ (either_next _ _ p.1 never)) in
    let low-d = low_all d p.0 in
    let low-g : All (λ y. y < 15) (map g d) = subst (All (λ y. y < 15)) (sym c.gives) low in
    let over : (k : ℕ) → 0 < k → held_times k (x ∷ l) ≡ map g (held_times k d) = λ k h. (
    ap (held_times k) (sym c.gives) ∙ held_carried g c.none_stays c.strict k d h low-d low-g
    ) in
    let moved : plain_named (counts_by ss (x ∷ l)) ≡ plain_named (carried_counts g (counts_by [] d)) = ap plain_named {x = record { flush = []; once = held_times 1 (x ∷ l); twice = held_times 2 (x ∷ l); thrice = held_times 3 (x ∷ l); fourfold = held_times 4 (x ∷ l) }} (λ i. record {
      flush = [];
      once = over 1 (omega arith) i;
      twice = over 2 (omega arith) i;
      thrice = over 3 (omega arith) i;
      fourfold = over 4 (omega arith) i;
    }) in
    moved
    ∙ plain_carried g c.none_stays c.strict (counts_by [] d)
    ∙ ap (carried g) right
    ∙ sym (carried_best g c.none_stays c.strict d)
    ∙ ap best_plain c.gives
