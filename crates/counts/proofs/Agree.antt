-- Of seven different cards the counts name the hand that the first reader names, the best of the 21 choices; and of any seven numbers the two readers give the
-- same answer, refusals too. Assumes nothing.
use mathlib.Core.Path.{◌≡◌, refl, sym, ap, ap₂, ◌∙◌}
use mathlib.Core.Bool.{Bool, true, false, not}
use mathlib.Core.Logic.{⊎_elim}
use mathlib.Core.List.{List, [], ◌∷◌, map, Memᴰ}
use Prim.Native.Nat.{ℕ, ◌<◌, ◌≤◌}
use native.Mathlib.Omega.{arith}
use native.Mathlib.Decide.{dec_lt}
use lib.Dec.{eqb, ltb}
use lib.ListN.{length, length-map}
use borrow.Author.Tests.{eq-eqb, ltb-true, ltb-false, lt-ltb, le-ltb}
use Rattle.std.specs.Prelude.{Ok, Err}
use Rattle.laws.specs.Tests.{both, pick}
use Rattle.laws.specs.Lists.{All}
use Rattle.laws.specs.Often.{count, SameNumbers}
use Rattle.laws.proofs.Tests.{test, both_true}
use Rattle.laws.proofs.Compare.{both_last}
use Rattle.laws.proofs.Often.{count_self, same_length, same_map}
use Rattle.cards.specs.Cards.{rank, suit, one_suit}
use Rattle.cards.specs.Hands.{hand}
use Rattle.cards.specs.Order.{ranking52, ranking_of, choices, best_of}
use Rattle.cards.proofs.Outside.{outside52}
use Rattle.cards.specs.Falls.{fall}
use Rattle.cards.specs.Reading.{Reading, any_above, any_outside, any_twice, reading_of}
use Rattle.cards.specs.declared.Hand.{Hand}
use Rattle.cards.specs.declared.asked.NoHand.TheVariants.{NotSeven, NoCard, Repeat}
use Rattle.cards.proofs.Kept.{placed52}
use Rattle.cards.proofs.Mixing.{choice_within, best_same}
use Rattle.cards.proofs.Falls.{Falling, fall_falling, fall_same, falling_map}
use Rattle.counts.specs.HandOrder.{passing, highest, leaving, is_rank, held_times, of_suit, flush_ranks, Counts, counts_by, counts_of, is_there, is_row, row_foot, rowed, four_rank, three_rank, pair_beside, pair_rank, second_pair, kickers, low_named, named, counted_hand, counted_reading}
use Rattle.counts.proofs.Passing.{first_there, leaving_less, leaving_none}
use Rattle.counts.proofs.Counting.{held_often, often_held, counted_same, suit_long}
use Rattle.counts.proofs.Plainly.{best_plain}
use Rattle.counts.proofs.Sevens.{plain_named, seven_plain}
use Rattle.counts.proofs.Fives.{tally_within}
use Rattle.counts.proofs.Rows.{Ranks, ranks_at, foot_same}
use Rattle.counts.proofs.Dealt.{ranks_up_to, once_each, four_most, suit_of_five, FlushOf, NoFlush, flush_or}
use Rattle.counts.proofs.Unsuited.{or_straight, unsuited_best}
use Rattle.counts.proofs.Suited.{no_four, no_full, high-some, high-foot, straight-flush-best, flush-best}

-- ---- what is counted, in words of how often
-- what is held is there
there_held : (rs : List ℕ) → Ranks rs → (r : ℕ) → ltb 0 (count r (held_times 1 rs)) ≡ ltb 0 (count r rs)
there_held rs a r = elim (dec_lt 0 (count r rs)) [
  | yes h ↦ lt-ltb 0 (count r (held_times 1 rs)) (omega (arith, often_held 1 rs r (ranks_at rs r a h).1 h)) ∙ sym (lt-ltb 0 (count r rs) h)
  | no h ↦ elim (dec_lt 0 (count r (held_times 1 rs))) [
    | yes g ↦ absurd (omega (arith, h, held_often 1 rs r g))
    | no g ↦ le-ltb 0 (count r (held_times 1 rs)) (omega arith) ∙ sym (le-ltb 0 (count r rs) (omega arith))
  ]
]

none_held : (k : ℕ) (rs : List ℕ) → ((r : ℕ) → count r rs < k) → is_rank (highest (held_times k rs)) ≡ false
none_held k rs h = elim (dec_lt 0 (highest (held_times k rs))) [
  | yes g ↦ absurd (omega (arith, h (highest (held_times k rs)), held_often k rs (highest (held_times k rs)) (first_there (held_times k rs) g)))
  | no g ↦ le-ltb 0 (highest (held_times k rs)) (omega arith)
]

-- ---- without a flush
low_class : (n : Counts) → 4 < (low_named n).class
unfolding low_named
low_class n =
    go (is_rank (three_rank n)) (is_rank (second_pair n)) (is_rank (pair_rank n)) (three_rank n ∷ three_rank n ∷ three_rank n ∷ kickers n (three_rank n))
    (pair_rank n ∷ pair_rank n ∷ second_pair n ∷ second_pair n ∷ leaving (second_pair n) (kickers n (pair_rank n))) (pair_rank n ∷ pair_rank n ∷ kickers n (pair_rank n)) n.once
  where
    go : (a b c : Bool) (p q r s : List ℕ) → 4 < (pick a (hand 5 p) (pick b (hand 6 q) (pick c (hand 7 r) (hand 8 s)))).class
    go true b c p q r s = omega arith
    go false true c p q r s = omega arith
    go false false true p q r s = omega arith
    go false false false p q r s = omega arith

or_straight_law : (b f : Bool) (p q : List ℕ) (k : ℕ) (low : Hand) → 4 < low.class
    → pick b (hand 1 p) (pick f (hand 2 q) (pick (is_rank k) (hand 4 (rowed k)) low)) ≡ or_straight (pick b (hand 1 p) (pick f (hand 2 q) low)) k
unfolding or_straight
or_straight_law true f p q k low h = go (ltb 0 k)
  where
    go : (c : Bool) → hand 1 p ≡ pick (both c false) (hand 4 (rowed k)) (hand 1 p)
    go true = refl
    go false = refl
or_straight_law false true p q k low h = go (ltb 0 k)
  where
    go : (c : Bool) → hand 2 q ≡ pick (both c false) (hand 4 (rowed k)) (hand 2 q)
    go true = refl
    go false = refl
or_straight_law false false p q k low h = ap (λ (d : Bool). pick d (hand 4 (rowed k)) low) (sym (ap (both (ltb 0 k)) (lt-ltb 4 low.class h) ∙ both_last (ltb 0 k)))

-- no ranks, no row
no_row : row_foot [] ≡ 0
unfolding row_foot is_row is_there passing
no_row = refl

-- the hand that the counts name, told of the flush
abbrev named_with : Counts → List ℕ → Hand
named_with n fl =
    pick (is_rank (row_foot fl)) (hand 0 (rowed (row_foot fl)))
    (pick (is_rank (four_rank n)) (hand 1 (four_rank n ∷ four_rank n ∷ four_rank n ∷ four_rank n ∷ kickers n (four_rank n)))
    (pick (both (is_rank (three_rank n)) (is_rank (pair_beside n))) (hand 2 (three_rank n ∷ three_rank n ∷ three_rank n ∷ pair_beside n ∷ pair_beside n ∷ []))
    (pick (is_rank (highest fl)) (hand 3 fl) (pick (is_rank (row_foot n.once)) (hand 4 (rowed (row_foot n.once))) (low_named n)))))

named_with_law : (n : Counts) → named n ≡ named_with n n.flush
unfolding named
named_with_law n = refl

named_unsuited : (n : Counts) → n.flush ≡ [] → named n ≡ or_straight (plain_named n) (row_foot n.once)
unfolding plain_named
named_unsuited n e =
    let f = four_rank n in
    let t = three_rank n in
    let p = pair_beside n in
    let rest = pick (is_rank f) (hand 1 (f ∷ f ∷ f ∷ f ∷ kickers n f))
    (pick (both (is_rank t) (is_rank p)) (hand 2 (t ∷ t ∷ t ∷ p ∷ p ∷ [])) (pick (is_rank (row_foot n.once)) (hand 4 (rowed (row_foot n.once))) (low_named n))) in
    named_with_law n
    ∙ ap (named_with n) e
    ∙ ap (λ (k : ℕ). pick (is_rank k) (hand 0 (rowed k)) rest) no_row
    ∙ or_straight_law (is_rank f) (both (is_rank t) (is_rank p)) (f ∷ f ∷ f ∷ f ∷ kickers n f) (t ∷ t ∷ t ∷ p ∷ p ∷ []) (row_foot n.once) (low_named n) (low_class n)

none_held_of : held_times 1 [] ≡ []
unfolding held_times passing
none_held_of = refl

-- no five of the cards are of one suit
no_suit : (l c : List ℕ) → NoFlush l → Memᴰ c (choices 5 l) → one_suit c ≡ false
no_suit l c f i =
    ⊎_elim
    (λ (e : one_suit c ≡ true).
    let w = choice_within 5 l c i in
    let s = suit_of_five c w.1 e in
    absurd (omega (arith, f.1 s.0 s.1, suit_long s.0 l, tally_within (λ d. eqb s.0 (suit d)) c l w.0, s.3)))
    (λ (e : one_suit c ≡ false). e)
    (test (one_suit c))

rank_keeps : (x y : ℕ) → x ≤ y → rank x ≤ rank y
rank_keeps x y h = omega arith

rank_over : (l : List ℕ) → All (λ y. 0 < y) (map rank l)
rank_over [] = tt
rank_over (c ∷ l) = (omega arith, rank_over l)

ranks_low : (rs : List ℕ) → Ranks rs → All (λ y. y < 15) rs
ranks_low [] a = tt
ranks_low (r ∷ rs) a = (a.0.1, ranks_low rs a.1)

-- by ranks alone: seven cards from high to low
plain_named_law : (l ss : List ℕ) → length l ≡ 7 → Falling l → Ranks (map rank l) → ((x : ℕ) → count x l ≤ 1) → plain_named (counts_by ss (map rank l)) ≡ best_plain (map rank l)
plain_named_law [] ss n f a u = absurd (omega arith)
plain_named_law (c ∷ l) ss n f a u =
    seven_plain (rank c) (map rank l) ss (length-map l rank ∙ omega arith) (falling_map rank rank_keeps (c ∷ l) f) (rank_over (c ∷ l)) (ranks_low (map rank (c ∷ l)) a)
    (λ r. four_most r (c ∷ l) u)

unsuited : (l : List ℕ) → length l ≡ 7 → Falling l → Ranks (map rank l) → ((x : ℕ) → count x l ≤ 1) → NoFlush l → counted_hand l ≡ best_of ranking52 l
unfolding counted_hand counts_of
unsuited l n f a u none =
    let rs = map rank l in
    named_unsuited (counts_by (flush_ranks l) rs) (ap (held_times 1) none.0 ∙ none_held_of)
    ∙ ap₂ or_straight (plain_named_law l (flush_ranks l) n f a u) (foot_same (held_times 1 rs) rs (there_held rs a))
    ∙ unsuited_best l (omega (arith, n)) a (λ c i. no_suit l c none i)

-- ---- with a flush
module _ (l : List ℕ) (n : length l ≡ 7) (a : Ranks (map rank l)) (u : (x : ℕ) → count x l ≤ 1) (s : ℕ) (fl : FlushOf l s) where
  abbrev rs : List ℕ
  rs = map rank l

  abbrev high : List ℕ
  high = held_times 1 (of_suit s l)

  abbrev m : Counts
  m = counts_by (of_suit s l) rs

  not_four : is_rank (four_rank m) ≡ false
  not_four = none_held 4 rs (λ r. omega (arith, no_four l s n u fl.0 fl.1 r))

  not_full : both (is_rank (three_rank m)) (is_rank (pair_beside m)) ≡ false
  not_full =
      ⊎_elim
      (λ (e : both (is_rank (three_rank m)) (is_rank (pair_beside m)) ≡ true).
      let p = both_true (is_rank (three_rank m)) (is_rank (pair_beside m)) e in
      let x = three_rank m in
      let y = pair_beside m in
      let three : 3 ≤ count x rs = held_often 3 rs x (first_there (held_times 3 rs) (ltb-true 0 x p.0)) in
      let there : 0 < count y (leaving x (held_times 2 rs)) = first_there (leaving x (held_times 2 rs)) (ltb-true 0 y p.1) in
      let pair : 2 ≤ count y rs = held_often 2 rs y (omega (arith, there, leaving_less x y (held_times 2 rs))) in
      let apart : x ≡ y → ⊥ = λ q. omega (arith, there, leaving_none x (held_times 2 rs), ap (λ (v : ℕ). count v (leaving x (held_times 2 rs))) q) in
      absurd (no_full l s n u fl.0 fl.1 x y apart three pair))
      (λ (e : both (is_rank (three_rank m)) (is_rank (pair_beside m)) ≡ false). e)
      (test (both (is_rank (three_rank m)) (is_rank (pair_beside m))))

  -- so the straight flush is named, or else the flush
  named_suited : named m ≡ pick (is_rank (row_foot high)) (hand 0 (rowed (row_foot high))) (hand 3 high)
  named_suited =
      let some : is_rank (highest high) ≡ true = lt-ltb 0 (highest high) (high-some l s n u fl.0 fl.1 a) in
      named_with_law m
      ∙ ap₂ (λ (b d : Bool). pick (is_rank (row_foot high)) (hand 0 (rowed (row_foot high)))
      (pick b (hand 1 (four_rank m ∷ four_rank m ∷ four_rank m ∷ four_rank m ∷ kickers m (four_rank m)))
      (pick d (hand 2 (three_rank m ∷ three_rank m ∷ three_rank m ∷ pair_beside m ∷ pair_beside m ∷ []))
      (pick (is_rank (highest high)) (hand 3 high) (pick (is_rank (row_foot m.once)) (hand 4 (rowed (row_foot m.once))) (low_named m)))))) not_four not_full
      ∙ ap (λ (b : Bool). pick (is_rank (row_foot high)) (hand 0 (rowed (row_foot high))) (pick b (hand 3 high) (pick (is_rank (row_foot m.once)) (hand 4 (rowed (row_foot m.once))) (low_named m)))) some

  suited_best : (k : ℕ) → row_foot (of_suit s l) ≡ k → pick (is_rank k) (hand 0 (rowed k)) (hand 3 high) ≡ best_of ranking52 l
  suited_best k e =
      ⊎_elim
      (λ (t : is_rank k ≡ true).
      ap (λ (b : Bool). pick b (hand 0 (rowed k)) (hand 3 high)) t ∙ ap (λ (j : ℕ). hand 0 (rowed j)) (sym e)
      ∙ straight-flush-best l s n u fl.0 fl.1 a (omega (arith, e, ltb-true 0 k t)))
      (λ (t : is_rank k ≡ false).
      ap (λ (b : Bool). pick b (hand 0 (rowed k)) (hand 3 high)) t ∙ flush-best l s n u fl.0 fl.1 a (omega (arith, e, ltb-false 0 k t)))
      (test (is_rank k))

  suited : counted_hand l ≡ best_of ranking52 l
  unfolding counted_hand counts_of
  suited =
      ap (λ (ss : List ℕ). named (counts_by ss rs)) fl.2
      ∙ named_suited
      ∙ suited_best (row_foot high) (sym (high-foot l s n u fl.0 fl.1 a))

-- ---- the theorem
falls_best : (l : List ℕ) → length l ≡ 7 → Falling l → Ranks (map rank l) → ((x : ℕ) → count x l ≤ 1) → counted_hand l ≡ best_of ranking52 l
falls_best l n f a u = ⊎_elim (λ s. suited l n a u s.0 s.1) (λ o. unsuited l n f a u o) (flush_or l)

-- of seven different cards of the 52 the counts name the best of the 21 choices
pub counted_best : (cards : List ℕ) → length cards ≡ 7 → any_above cards ≡ false → any_twice cards ≡ false → counted_hand cards ≡ best_of ranking52 cards
counted_best cards n high twice =
    let l = fall cards in
    let s = fall_same cards in
    let k : length l ≡ 7 = same_length l cards s ∙ n in
    let once : (x : ℕ) → count x l ≤ 1 = λ x. omega (arith, s x, once_each cards twice x) in
    counted_same cards l (λ x. sym (s x))
    ∙ falls_best l k (fall_falling cards) (ranks-same (map rank cards) (map rank l) (λ r. sym (same_map rank l cards s r)) (ranks_up_to cards high)) once
    ∙ best_same ranking52 placed52 l cards (omega (arith, k)) s
  where
    ranks-same : (l m : List ℕ) → SameNumbers l m → Ranks l → Ranks m
    ranks-same l m s a = go m (λ r h. ranks_at l r a (omega (arith, h, s r)))
      where
        go : (m : List ℕ) → ((r : ℕ) → 0 < count r m → (2 ≤ r) × (r < 15)) → Ranks m
        go [] h = tt
        go (x ∷ m) h = (h x (omega (arith, count_self x m)), go m (λ r k. h r (omega arith)))

-- ---- what the code answers
module _ (l : List ℕ) where
  pub reads_high : any_above l ≡ true → Err NoCard ≡ counted_reading l
  unfolding counted_reading
  reads_high e = sym (ap (λ (b : Bool). pick b (Err NoCard) (pick (any_twice l) (Err Repeat) (Ok (counted_hand l)))) e)

  pub reads_twice : any_above l ≡ false → any_twice l ≡ true → Err Repeat ≡ counted_reading l
  unfolding counted_reading
  reads_twice e f = sym (ap₂ (λ (b d : Bool). pick b (Err NoCard) (pick d (Err Repeat) (Ok (counted_hand l)))) e f)

  pub reads_hand : (h : Hand) → any_above l ≡ false → any_twice l ≡ false → h ≡ counted_hand l → Ok h ≡ counted_reading l
  unfolding counted_reading
  reads_hand h e f g = ap Ok g ∙ sym (ap₂ (λ (b d : Bool). pick b (Err NoCard) (pick d (Err Repeat) (Ok (counted_hand l)))) e f)

alike : (a t : Bool) (h g : Hand) → (a ≡ false → t ≡ false → h ≡ g) → pick a (Err NoCard) (pick t (Err Repeat) (Ok h)) ≡ pick a (Err NoCard) (pick t (Err Repeat) (Ok g))
alike true t h g e = refl
alike false true h g e = refl
alike false false h g e = ap Ok (e refl refl)

-- the two readers agree on every seven numbers, refusals too
pub readers_agree : (cards : List ℕ) → length cards ≡ 7 → counted_reading cards ≡ reading_of 52 cards
unfolding counted_reading reading_of ranking_of
readers_agree cards n =
    let rest : Bool → Reading = λ (b : Bool). pick b (Err NoCard) (pick (any_twice cards) (Err Repeat) (Ok (best_of ranking52 cards))) in
    alike (any_above cards) (any_twice cards) (counted_hand cards) (best_of ranking52 cards) (λ p q. counted_best cards n p q)
    ∙ ap rest (sym (outside52 cards))
    ∙ sym (ap (λ (b : Bool). pick (not b) (Err NotSeven) (rest (any_outside 52 cards))) (eq-eqb (length cards) 7 n))
