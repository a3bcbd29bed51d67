-- Seven different cards of which five or more are of one suit: there is no four of a kind and no full house beside them, so the straight flush of that suit is
-- the best of all choices of five, or else its five highest. Assumes nothing.
use mathlib.Core.Path.{◌≡◌, refl, sym, ap, ap₂, ◌∙◌, subst}
use mathlib.Core.Bool.{Bool, true, false, not, true≢false}
use mathlib.Core.Logic.{⊎_elim}
use mathlib.Core.List.Memᴰ
use mathlib.Core.List.{List, [], ◌∷◌, map, Memᴰ}
use Prim.Native.Nat.{ℕ, zero, suc, ◌+◌, ◌<◌, ◌≤◌}
use native.Mathlib.Omega.{arith}
use native.Mathlib.Decide.{dec_lt}
use lib.Dec.{eqb, ltb}
use lib.ListN.{length, get_or, take, length-map, length-take}
use lib.Seq.{get_or-take}
use borrow.Author.Tests.{eqb-true, eq-eqb, ne_eqb}
use Rattle.laws.specs.Tests.{one, both, pick}
use Rattle.laws.specs.Lists.{All}
use Rattle.laws.specs.Often.{tally, count, SameNumbers}
use Rattle.laws.proofs.Tests.{test, both_true}
use Rattle.laws.proofs.Five.{five_list}
use Rattle.laws.proofs.Often.{one_small, count_self, same_length, same_map, tally_map}
use Rattle.cards.specs.Cards.{rank, suit, lowered, in_row, ordered, all_are, all_alike, one_suit}
use Rattle.cards.specs.Hands.{hand, first, value_of, most_held, next_held, class_of}
use Rattle.cards.specs.Order.{ranking52, above, beats_by, choices, best_of}
use Rattle.cards.specs.declared.Hand.{Hand}
use Rattle.cards.proofs.Above.{equal}
use Rattle.cards.proofs.Sorted.{ordered_right}
use Rattle.cards.proofs.Kept.{class_below, placed52}
use Rattle.cards.proofs.Only.{best_only}
use Rattle.cards.proofs.Mixed.{same_ordered}
use Rattle.cards.proofs.Mixing.{Within, choice_within, within_choice}
use Rattle.counts.specs.HandOrder.{highest, held_times, of_suit, row_foot, rowed}
use Rattle.laws.proofs.Choosing.{Drops}
use Rattle.counts.proofs.Counting.{held_drops, held_often, often_held, suit_count, suit_long}
use Rattle.counts.proofs.Fives.{drops_ordered, most_one, dropped_cards, tally_within, first_ones}
use Rattle.counts.proofs.Rows.{Ranks, ranks_at, rowed_row, foot_same, straight_of, row_ranks}
use Rattle.counts.proofs.Worth.{compared, value_by, value_straight_flush, value_flush, class_under, row_under}
use Rattle.counts.proofs.Dealt.{suit_once, suit_of_five}

-- ---- the cards of a suit
unfoldable pub the_suit : ℕ → List ℕ → List ℕ
the_suit s [] = []
the_suit s (c ∷ l) = pick (eqb s (suit c)) (c ∷ the_suit s l) (the_suit s l)

suit_ranks : (s : ℕ) (l : List ℕ) → map rank (the_suit s l) ≡ of_suit s l
unfolding the_suit of_suit
suit_ranks s [] = refl
suit_ranks s (c ∷ l) = go (eqb s (suit c)) (suit_ranks s l)
  where
    go : (b : Bool) → map rank (the_suit s l) ≡ of_suit s l → map rank (pick b (c ∷ the_suit s l) (the_suit s l)) ≡ pick b (rank c ∷ of_suit s l) (of_suit s l)
    go true ih = ap (λ (m : List ℕ). rank c ∷ m) ih
    go false ih = ih

suit_within : (s : ℕ) (l : List ℕ) → Within (the_suit s l) l
unfolding the_suit
suit_within s [] x = omega arith
suit_within s (c ∷ l) x = go (eqb s (suit c)) (suit_within s l x)
  where
    go : (b : Bool) → count x (the_suit s l) ≤ count x l → count x (pick b (c ∷ the_suit s l) (the_suit s l)) ≤ one (eqb x c) + count x l
    go true ih = omega (arith, ih)
    go false ih = omega (arith, ih)

suit_all : (s : ℕ) (l : List ℕ) (x : ℕ) → 0 < count x (the_suit s l) → suit x ≡ s
unfolding the_suit
suit_all s [] x h = absurd (omega arith)
suit_all s (c ∷ l) x h = go (eqb s (suit c)) refl h (suit_all s l x)
  where
    go : (b : Bool) → eqb s (suit c) ≡ b → 0 < count x (pick b (c ∷ the_suit s l) (the_suit s l)) → (0 < count x (the_suit s l) → suit x ≡ s) → suit x ≡ s
    go false e k ih = ih k
    go true e k ih =
        ⊎_elim
        (λ (q : eqb x c ≡ true). ap suit (eqb-true x c q) ∙ sym (eqb-true s (suit c) e))
        (λ (q : eqb x c ≡ false). let o : one (eqb x c) ≡ 0 = ap one q in ih (omega arith))
        (test (eqb x c))

-- cards that are all of a suit
all_are_law : (s : ℕ) (m : List ℕ) → ((x : ℕ) → 0 < count x m → suit x ≡ s) → all_are s (map suit m) ≡ true
all_are_law s [] h = refl
all_are_law s (c ∷ m) h =
    ap₂ both (eq-eqb s (suit c) (sym (h c (omega (arith, count_self c m))))) (all_are_law s m (λ x k. h x (omega arith)))

one_suit_law : (s : ℕ) (m : List ℕ) → all_are s (map suit m) ≡ true → one_suit m ≡ true
unfolding one_suit all_alike
one_suit_law s [] h = refl
one_suit_law s (c ∷ m) h =
    let p = both_true (eqb s (suit c)) (all_are s (map suit m)) h in
    subst (λ (v : ℕ). all_are v (map suit m) ≡ true) (eqb-true s (suit c) p.0) p.1

-- of cards that are all of a suit, those of a rank
all_tally : (s r : ℕ) (c : List ℕ) → all_are s (map suit c) ≡ true → tally (λ d. both (eqb s (suit d)) (eqb r (rank d))) c ≡ count r (map rank c)
all_tally s r [] h = refl
all_tally s r (x ∷ c) h =
    let p = both_true (eqb s (suit x)) (all_are s (map suit c)) h in
    ap₂ (λ (b : Bool) (n : ℕ). one (both b (eqb r (rank x))) + n) p.0 (all_tally s r c p.1)

-- ---- two ranks, or two suits, are counted apart
two_apart : (x y : ℕ) (b : Bool) (z : ℕ) → (x ≡ y → ⊥) → one (both b (eqb x z)) + one (both b (eqb y z)) ≤ one b
two_apart x y false z h = omega arith
two_apart x y true z h =
    ⊎_elim
    (λ (e : eqb x z ≡ true).
    let o : one (eqb y z) ≡ 0 = ap one (ne_eqb y z (λ q. h (eqb-true x z e ∙ sym q))) in
    omega (arith, o, one_small (eqb x z)))
    (λ (e : eqb x z ≡ false). let o : one (eqb x z) ≡ 0 = ap one e in omega (arith, o, one_small (eqb y z)))
    (test (eqb x z))

tally_apart : (f : ℕ → Bool) (g : ℕ → ℕ) (x y : ℕ) → (x ≡ y → ⊥) → (l : List ℕ) → tally (λ c. both (f c) (eqb x (g c))) l + tally (λ c. both (f c) (eqb y (g c))) l ≤ tally f l
tally_apart f g x y h [] = omega arith
tally_apart f g x y h (c ∷ l) = omega (arith, tally_apart f g x y h l, two_apart x y (f c) (g c) h)

tally_split : (f g : ℕ → Bool) (l : List ℕ) → tally (λ c. both (f c) (g c)) l + tally (λ c. both (not (f c)) (g c)) l ≡ tally g l
tally_split f g [] = refl
tally_split f g (c ∷ l) = go (f c) (g c) (tally_split f g l)
  where
    go : (a b : Bool) → tally (λ d. both (f d) (g d)) l + tally (λ d. both (not (f d)) (g d)) l ≡ tally g l
        → one (both a b) + tally (λ d. both (f d) (g d)) l + (one (both (not a) b) + tally (λ d. both (not (f d)) (g d)) l) ≡ one b + tally g l
    go true b ih = omega (arith, ih)
    go false b ih = omega (arith, ih)

tally_others : (f : ℕ → Bool) (l : List ℕ) → tally f l + tally (λ c. not (f c)) l ≡ length l
tally_others f [] = refl
tally_others f (c ∷ l) = go (f c) (tally_others f l)
  where
    go : (b : Bool) → tally f l + tally (λ d. not (f d)) l ≡ length l → one b + tally f l + (one (not b) + tally (λ d. not (f d)) l) ≡ suc (length l)
    go true ih = omega (arith, ih)
    go false ih = omega (arith, ih)

module _ (l : List ℕ) (s : ℕ) (n : length l ≡ 7) (u : (x : ℕ) → count x l ≤ 1) (low : s < 4) (five : 5 ≤ length (of_suit s l)) where
  abbrev ss : List ℕ
  ss = of_suit s l

  -- cards of a rank that are not of the suit
  abbrev others : ℕ → ℕ
  others r = tally (λ c. both (not (eqb s (suit c))) (eqb r (rank c))) l

  rank_parts : (r : ℕ) → count r ss + others r ≡ count r (map rank l)
  rank_parts r = omega (arith, suit_count s r l, tally_split (λ c. eqb s (suit c)) (λ c. eqb r (rank c)) l, tally_map (eqb r) rank l)

  few_others : tally (λ c. not (eqb s (suit c))) l ≤ 2
  few_others = omega (arith, tally_others (λ c. eqb s (suit c)) l, suit_long s l, n, five)

  others_apart : (x y : ℕ) → (x ≡ y → ⊥) → others x + others y ≤ 2
  others_apart x y h = omega (arith, few_others, tally_apart (λ c. not (eqb s (suit c))) rank x y h l)

  others_few : (x : ℕ) → others x ≤ 2
  others_few x = omega (arith, others_apart x (suc x) (λ e. omega arith))

  -- no four, and no three beside a pair
  pub no_four : (r : ℕ) → count r (map rank l) ≤ 3
  no_four r = omega (arith, rank_parts r, suit_once s r l low u, others_few r)

  pub no_full : (x y : ℕ) → (x ≡ y → ⊥) → 3 ≤ count x (map rank l) → 2 ≤ count y (map rank l) → ⊥
  no_full x y h a b = omega (arith, rank_parts x, rank_parts y, suit_once s x l low u, suit_once s y l low u, others_apart x y h)

  -- no other suit has five
  same_suit : (r : ℕ) → 5 ≤ length (of_suit r l) → r ≡ s
  same_suit r h =
      ⊎_elim
      (λ (e : eqb r s ≡ true). eqb-true r s e)
      (λ (e : eqb r s ≡ false).
      absurd (omega (arith, h, five, n, suit_long r l, suit_long s l, tally_apart (λ c. true) suit r s (λ q. true≢false (sym (eq-eqb r s q) ∙ e)) l, tally_others (λ c. true) l)))
      (test (eqb r s))

  -- ---- the ranks of the suit from high to low
  module _ (ranks : Ranks (map rank l)) where
    abbrev high : List ℕ
    high = held_times 1 ss

    suit-low : (r : ℕ) → 0 < count r ss → (2 ≤ r) × (r < 15)
    suit-low r h = ranks_at (map rank l) r ranks (omega (arith, rank_parts r, h))

    suit-of-ranks : Ranks ss
    suit-of-ranks = go ss (λ r h. suit-low r h)
      where
        go : (m : List ℕ) → ((r : ℕ) → 0 < count r m → (2 ≤ r) × (r < 15)) → Ranks m
        go [] h = tt
        go (x ∷ m) h = (h x (omega (arith, count_self x m)), go m (λ r k. h r (omega arith)))

    high_same : SameNumbers high ss
    high_same r = elim (dec_lt 0 (count r ss)) [
      | yes h ↦ omega (arith, h, suit_once s r l low u, often_held 1 ss r (suit-low r h).1 h)
      | no h ↦ elim (dec_lt 0 (count r high)) [ yes g ↦ absurd (omega (arith, h, held_often 1 ss r g)) | no g ↦ omega arith ]
    ]

    high-long : 5 ≤ length high
    high-long = omega (arith, five, same_length high ss high_same)

    pub high-some : 0 < highest high
    high-some = go high high-long (λ r h. (suit-low r (omega (arith, h, high_same r))).0)
      where
        go : (m : List ℕ) → 5 ≤ length m → ((r : ℕ) → 0 < count r m → 2 ≤ r) → 0 < highest m
        go [] k h = absurd (omega arith)
        go (x ∷ m) k h = omega (arith, h x (omega (arith, count_self x m)))

    pub high-foot : row_foot high ≡ row_foot ss
    high-foot = foot_same high ss (λ r. ap (ltb 0) (high_same r))

    -- ---- a choice
    -- five cards of the suit, their ranks from high to low
    abbrev Suited : List ℕ → Type 0
    Suited c = (one_suit c ≡ true) × Within (map rank c) ss × Drops 15 (ordered (map rank c)) × (most_held (map rank c) ≡ 1)

    long-some : (x : ℕ) (m : List ℕ) → Drops x m → length m ≡ 5 → (c : List ℕ) → ordered c ≡ m → most_held c ≡ 1
    long-some x [] d k c e = absurd (omega arith)
    long-some x (y ∷ m) d k c e = most_one c x y m e d

    suited : (c : List ℕ) → Memᴰ c (choices 5 l) → one_suit c ≡ true → Suited c
    suited c i e =
        let w = choice_within 5 l c i in
        let f = suit_of_five c w.1 e in
        let t : f.0 ≡ s = same_suit f.0 (omega (arith, suit_long f.0 l, tally_within (λ d. eqb f.0 (suit d)) c l w.0, f.3)) in
        let all : all_are s (map suit c) ≡ true = subst (λ (v : ℕ). all_are v (map suit c) ≡ true) t f.2 in
        let within : Within (map rank c) ss =
        λ r. omega (arith, all_tally s r c all, suit_count s r l, tally_within (λ d. both (eqb s (suit d)) (eqb r (rank d))) c l w.0) in
        let same : SameNumbers (held_times 1 (map rank c)) (map rank c) = λ r. elim (dec_lt 0 (count r (map rank c))) [
          | yes h ↦ omega (arith, h, within r, suit_once s r l low u, often_held 1 (map rank c) r (suit-low r (omega (arith, within r, h))).1 h)
          | no h ↦ elim (dec_lt 0 (count r (held_times 1 (map rank c)))) [ yes g ↦ absurd (omega (arith, h, held_often 1 (map rank c) r g)) | no g ↦ omega arith ]
        ] in
        let o : ordered (map rank c) ≡ held_times 1 (map rank c) =
        sym (same_ordered (held_times 1 (map rank c)) (map rank c) same) ∙ drops_ordered 15 (held_times 1 (map rank c)) (held_drops 1 (map rank c)) in
        let d : Drops 15 (held_times 1 (map rank c)) = held_drops 1 (map rank c) in
        let k : length (held_times 1 (map rank c)) ≡ 5 = same_length (held_times 1 (map rank c)) (map rank c) same ∙ length-map c rank ∙ w.1 in
        (e, within, subst (Drops 15) (sym o) d, long-some 15 (held_times 1 (map rank c)) d k (map rank c) o)

    -- a choice that is not of one suit is a straight at most
    first-low : (a : Bool) (m : List Bool) → 3 < first (both a false ∷ false ∷ false ∷ false ∷ m)
    first-low true m = omega arith
    first-low false m = omega arith

    -- how often a rank of the list is held
    held_at : (c os : List ℕ) (k j : ℕ) → get_or (map (λ r. count r c) os) k 0 ≡ suc j → (r : ℕ) × (count r c ≡ suc j)
    held_at c [] k j e = absurd (omega (arith, e))
    held_at c (x ∷ os) zero j e = (x, e)
    held_at c (x ∷ os) (suc k) j e = held_at c os k j e

    unsuited : (c : List ℕ) → Memᴰ c (choices 5 l) → one_suit c ≡ false → (3 < (value_of ranking52 c).class) × ((value_of ranking52 c).class < 9)
    unfolding class_of
    unsuited c i e =
        let w = choice_within 5 l c i in
        let within : (r : ℕ) → count r (map rank c) ≤ count r (map rank l) =
        λ r. omega (arith, tally_map (eqb r) rank c, tally_map (eqb r) rank l, tally_within (λ d. eqb r (rank d)) c l w.0) in
        let row = in_row (compared c) in
        let most = most_held (map rank c) in
        let next = next_held (map rank c) in
        let four : eqb most 4 ≡ false = ne_eqb most 4 (λ q. (
        let r = held_at (map rank c) (ordered (map rank c)) 0 3 q in
        omega (arith, r.1, within r.0, no_four r.0)
        )) in
        let full : both (eqb most 3) (eqb next 2) ≡ false = ⊎_elim
        (λ (t : both (eqb most 3) (eqb next 2) ≡ true).
        let p = both_true (eqb most 3) (eqb next 2) t in
        let x = held_at (map rank c) (ordered (map rank c)) 0 2 (eqb-true most 3 p.0) in
        let y = held_at (map rank c) (ordered (map rank c)) most 1 (eqb-true next 2 p.1) in
        absurd (no_full x.0 y.0 (λ q. omega (arith, x.1, y.1, ap (λ (v : ℕ). count v (map rank c)) q)) (omega (arith, x.1, within x.0)) (omega (arith, y.1, within y.0))))
        (λ (t : both (eqb most 3) (eqb next 2) ≡ false). t)
        (test (both (eqb most 3) (eqb next 2))) in
        let rest : List Bool = row ∷ eqb most 3 ∷ both (eqb most 2) (eqb next 2) ∷ eqb most 2 ∷ [] in
        let k : class_of row false most next ≡ first (both row false ∷ false ∷ false ∷ false ∷ rest) =
        ap₂ (λ (a b : Bool). first (both row false ∷ a ∷ b ∷ false ∷ rest)) four full in
        let v : (value_of ranking52 c).class ≡ class_of row false most next = ap (λ (h : Hand). h.class) (value_by c row false refl e) in
        (omega (arith, v, k, first-low row rest), omega (arith, v, class_below row false most next))

    -- ---- the two hands
    -- five cards of the suit whose ranks drop
    chosen : (ks : List ℕ) → Drops 20 ks → length ks ≡ 5 → All (λ k. 0 < count k ss) ks → (c : List ℕ) × Memᴰ c (choices 5 l) × (one_suit c ≡ true) × (ordered (map rank c) ≡ ks)
    chosen ks d k a =
        let m = dropped_cards 20 ks (the_suit s l) d (subst (λ (qs : List ℕ). All (λ r. 0 < count r qs) ks) (sym (suit_ranks s l)) a) in
        let within : Within m.0 l = λ x. omega (arith, m.2 x, suit_within s l x) in
        let c = within_choice 5 l m.0 within (sym (length-map m.0 rank) ∙ ap length m.1 ∙ k) in
        let all : all_are s (map suit c.0) ≡ true = all_are_law s c.0 (λ x h. suit_all s l x (omega (arith, h, c.2 x, m.2 x))) in (
          c.0,
          c.1,
          one_suit_law s c.0 all,
          sym (same_ordered (map rank m.0) (map rank c.0) (same_map rank m.0 c.0 c.2)) ∙ ap ordered m.1 ∙ drops_ordered 20 ks d,
        )

    straight-from : 0 < row_foot ss → Memᴰ (hand 0 (rowed (row_foot ss))) (map (value_of ranking52) (choices 5 l))
    straight-from p =
        let r = row_ranks ss suit-of-ranks p in
        let c = chosen (r.0 ∷ r.1) r.2 r.3 r.4 in
        let row : compared c.0 ≡ rowed (row_foot ss) = ap (lowered 2) c.3 ∙ r.5 in
        let v = value_straight_flush c.0 (rowed (row_foot ss)) (ap in_row row ∙ rowed_row (row_foot ss)) c.2 row in
        Memᴰ.cast (sym v) (Memᴰ.map (value_of ranking52) c.1)

    -- a straight of the suit is not above the row found
    suited-row : (c : List ℕ) → Memᴰ c (choices 5 l) → Suited c → in_row (compared c) ≡ true → (t : ℕ) × (0 < t) × (t ≤ row_foot ss) × (value_of ranking52 c ≡ hand 0 (rowed t))
    suited-row c i v p =
        let w = choice_within 5 l c i in
        let r = straight_of ss suit-of-ranks (map rank c) (length-map c rank ∙ w.1) v.1 p in
        (r.0, r.1, r.2, value_straight_flush c (rowed r.0) p v.0 r.3)

    -- no choice beats a hand that no straight flush up to the row found beats, nor any flush, nor any lower class
    none-beats : (g : Hand) → g.class ≤ 3 → ((t : ℕ) → 0 < t → t ≤ row_foot ss → beats_by ranking52 (hand 0 (rowed t)) g ≡ false)
        → ((c : List ℕ) → Memᴰ c (choices 5 l) → Suited c → in_row (compared c) ≡ false → beats_by ranking52 (hand 3 (ordered (map rank c))) g ≡ false)
        → (h : Hand) → Memᴰ h (map (value_of ranking52) (choices 5 l)) → beats_by ranking52 h g ≡ false
    none-beats g k rows flushes h i =
        let c = Memᴰ.of_map (value_of ranking52) (choices 5 l) i in
        subst (λ (v : Hand). beats_by ranking52 v g ≡ false) c.2
        (⊎_elim
        (λ (e : one_suit c.0 ≡ true).
        let v = suited c.0 c.1 e in
        ⊎_elim
        (λ (p : in_row (compared c.0) ≡ true).
        let r = suited-row c.0 c.1 v p in
        subst (λ (w : Hand). beats_by ranking52 w g ≡ false) (sym r.3) (rows r.0 r.1 r.2))
        (λ (p : in_row (compared c.0) ≡ false).
        subst (λ (w : Hand). beats_by ranking52 w g ≡ false) (sym (value_flush c.0 (ordered (map rank c.0)) p e v.3 refl)) (flushes c.0 c.1 v p))
        (test (in_row (compared c.0))))
        (λ (e : one_suit c.0 ≡ false).
        let v = unsuited c.0 c.1 e in
        class_under (value_of ranking52 c.0) g (omega (arith, k, v.0)) v.1)
        (test (one_suit c.0)))

    pub straight-flush-best : 0 < row_foot ss → hand 0 (rowed (row_foot ss)) ≡ best_of ranking52 l
    straight-flush-best p =
        best_only ranking52 placed52 l (omega (arith, n)) (hand 0 (rowed (row_foot ss))) (record {
          among = straight-from p;
          top =
              none-beats (hand 0 (rowed (row_foot ss))) (omega arith) (λ t a b. row_under 0 t (row_foot ss) b)
              (λ c i v q. class_under (hand 3 (ordered (map rank c))) (hand 0 (rowed (row_foot ss))) (omega arith) (omega arith));
        })

    -- the first five are five of them
    take-drops : (k x : ℕ) (m : List ℕ) → Drops x m → Drops x (take k m)
    take-drops zero x m d = tt
    take-drops (suc k) x [] d = tt
    take-drops (suc k) x (y ∷ m) d = (d.0, take-drops k y m d.1)

    take-there : (k : ℕ) (m qs : List ℕ) → ((r : ℕ) → 0 < count r m → 0 < count r qs) → All (λ r. 0 < count r qs) (take k m)
    take-there zero m qs h = tt
    take-there (suc k) [] qs h = tt
    take-there (suc k) (y ∷ m) qs h = (h y (omega (arith, count_self y m)), take-there k m qs (λ r g. h r (omega arith)))

    -- five places of a list
    abbrev firsts : List ℕ → List ℕ
    firsts q = get_or q 0 0 ∷ get_or q 1 0 ∷ get_or q 2 0 ∷ get_or q 3 0 ∷ get_or q 4 0 ∷ []

    five-first : firsts (take 5 high) ≡ firsts high
    five-first =
        let at : (i : ℕ) → i < 5 → get_or (take 5 high) i 0 ≡ get_or high i 0 = λ i h. get_or-take 5 high i 0 h in
        rw (at 0 (omega arith), at 1 (omega arith), at 2 (omega arith), at 3 (omega arith), at 4 (omega arith))

    five-high : hand 3 (take 5 high) ≡ hand 3 high
    five-high = ap (hand 3) five-first

    flush-from : row_foot ss ≡ 0 → Memᴰ (hand 3 high) (map (value_of ranking52) (choices 5 l))
    flush-from z =
        let ks = take 5 high in
        let d : Drops 15 ks = take-drops 5 15 high (held_drops 1 ss) in
        let k : length ks ≡ 5 = omega (arith, length-take 5 high, high-long) in
        let c = chosen ks (up ks d) k (take-there 5 high ss (λ r h. omega (arith, h, high_same r))) in
        let v = suited c.0 c.1 c.2 in
        let no : in_row (compared c.0) ≡ false = ⊎_elim
        (λ (p : in_row (compared c.0) ≡ true). let r = suited-row c.0 c.1 v p in absurd (omega (arith, z, r.1, r.2)))
        (λ (p : in_row (compared c.0) ≡ false). p)
        (test (in_row (compared c.0))) in
        Memᴰ.cast (sym (value_flush c.0 ks no c.2 v.3 c.3 ∙ five-high)) (Memᴰ.map (value_of ranking52) c.1)
      where
        up : (m : List ℕ) → Drops 15 m → Drops 20 m
        up [] d = tt
        up (y ∷ m) d = (omega (arith, d.0), d.1)

    five-above : (os : List ℕ) → length os ≡ 5 → above os (take 5 high) ≡ false → beats_by ranking52 (hand 3 os) (hand 3 high) ≡ false
    five-above os k e =
        let f : length (take 5 high) ≡ 5 = omega (arith, length-take 5 high, high-long) in
        equal 6 6 (firsts os) (firsts high) refl
        ∙ ap₂ above (sym (five_list 0 os k)) (sym five-first ∙ sym (five_list 0 (take 5 high) f))
        ∙ e

    pub flush-best : row_foot ss ≡ 0 → hand 3 high ≡ best_of ranking52 l
    flush-best z =
        best_only ranking52 placed52 l (omega (arith, n)) (hand 3 high) (record {
          among = flush-from z;
          top =
              none-beats (hand 3 high) (omega arith) (λ t a b. absurd (omega (arith, z, a, b)))
              (λ c i v q.
              let os = ordered (map rank c) in
              let same = (ordered_right (map rank c)).same in
              let k : length os ≡ 5 = same_length os (map rank c) same ∙ length-map c rank ∙ (choice_within 5 l c i).1 in
              let within : Within os high = λ r. omega (arith, same r, v.1 r, high_same r) in
              five-above os k (ap (λ (j : ℕ). above os (take j high)) (sym k) ∙ first_ones 15 os high v.2 (held_drops 1 ss) within));
        })
