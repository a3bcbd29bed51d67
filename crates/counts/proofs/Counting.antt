-- Counting does not see the order of the cards; and ranks that are carried over by a function that keeps the order are counted as those they come from.
-- For any number of cards. Assumes nothing.
use mathlib.Core.Path.{◌≡◌, refl, sym, ap, ◌∙◌, subst}
use mathlib.Core.Bool.{Bool, true, false}
use mathlib.Core.Logic.{⊎_elim}
use mathlib.Core.List.{List, [], ◌∷◌, map}
use Prim.Native.Nat.{ℕ, ◌+◌, ◌<◌, ◌≤◌}
use native.Mathlib.Omega.{arith}
use native.Mathlib.Decide.{dec_lt}
use lib.Dec.{eqb, leb}
use lib.ListN.{length}
use borrow.Author.Tests.{eqb-true, leb-true, le-leb}
use Rattle.laws.specs.Tests.{one, both, pick}
use Rattle.laws.specs.Lists.{All}
use Rattle.laws.specs.Often.{tally, count, SameNumbers}
use Rattle.laws.proofs.Tests.{test}
use Rattle.laws.proofs.Often.{count_self, same_length, same_map, tally_same}
use Rattle.cards.specs.Cards.{rank, suit}
use Rattle.cards.proofs.Scaled.{same_eqb, same_count}
use Rattle.cards.proofs.Patterns.{Strict}
use Rattle.counts.specs.HandOrder.{leaving, held_times, of_suit, if_five, flush_ranks, counts_of, counted_hand, named}
use Rattle.laws.proofs.Choosing.{Drops, drops_up}
use Rattle.counts.proofs.Passing.{drops_none, passing_drops, passing_count, passing_same, drops_same}

-- ---- the ranks held k times
pub held_drops : (k : ℕ) (rs : List ℕ) → Drops 15 (held_times k rs)
unfolding held_times
held_drops k rs = passing_drops 15 (λ r. leb k (count r rs))

pub held_count : (k : ℕ) (rs : List ℕ) (r : ℕ) → r < 15 → count r (held_times k rs) ≡ one (leb k (count r rs))
unfolding held_times
held_count k rs r h = passing_count 15 (λ x. leb k (count x rs)) r h

pub held_same : (k : ℕ) (l m : List ℕ) → SameNumbers l m → held_times k l ≡ held_times k m
unfolding held_times
held_same k l m s = passing_same 15 (λ r. leb k (count r l)) (λ r. leb k (count r m)) (λ r h. ap (leb k) (s r))

-- what is there is held k times
pub held_often : (k : ℕ) (rs : List ℕ) (r : ℕ) → 0 < count r (held_times k rs) → k ≤ count r rs
held_often k rs r h = elim (dec_lt r 15) [
  | yes a ↦
      ⊎_elim
      (λ (e : leb k (count r rs) ≡ true). leb-true k (count r rs) e)
      (λ (e : leb k (count r rs) ≡ false). let o : one (leb k (count r rs)) ≡ 0 = ap one e in absurd (omega (arith, h, o, held_count k rs r a)))
      (test (leb k (count r rs)))
  | no a ↦ absurd (omega (arith, h, drops_none 15 r (held_times k rs) (held_drops k rs) (omega arith)))
]

-- and what is held k times is there
pub often_held : (k : ℕ) (rs : List ℕ) (r : ℕ) → r < 15 → k ≤ count r rs → count r (held_times k rs) ≡ 1
often_held k rs r a h = held_count k rs r a ∙ ap one (le-leb k (count r rs) h)

-- ---- the ranks of a suit
pub suit_count : (s r : ℕ) (l : List ℕ) → count r (of_suit s l) ≡ tally (λ c. both (eqb s (suit c)) (eqb r (rank c))) l
unfolding of_suit
suit_count s r [] = refl
suit_count s r (c ∷ l) = go (eqb s (suit c)) (suit_count s r l)
  where
    go : (b : Bool) → count r (of_suit s l) ≡ tally (λ d. both (eqb s (suit d)) (eqb r (rank d))) l
        → count r (pick b (rank c ∷ of_suit s l) (of_suit s l)) ≡ one (both b (eqb r (rank c))) + tally (λ d. both (eqb s (suit d)) (eqb r (rank d))) l
    go true ih = ap (λ (n : ℕ). one (eqb r (rank c)) + n) ih
    go false ih = omega (arith, ih)

pub suit_long : (s : ℕ) (l : List ℕ) → length (of_suit s l) ≡ tally (λ c. eqb s (suit c)) l
unfolding of_suit
suit_long s [] = refl
suit_long s (c ∷ l) = go (eqb s (suit c)) (suit_long s l)
  where
    go : (b : Bool) → length (of_suit s l) ≡ tally (λ d. eqb s (suit d)) l → length (pick b (rank c ∷ of_suit s l) (of_suit s l)) ≡ one b + tally (λ d. eqb s (suit d)) l
    go true ih = omega (arith, ih)
    go false ih = omega (arith, ih)

suit_same : (s : ℕ) (l m : List ℕ) → SameNumbers l m → SameNumbers (of_suit s l) (of_suit s m)
suit_same s l m h r = suit_count s r l ∙ tally_same (λ c. both (eqb s (suit c)) (eqb r (rank c))) l m h ∙ sym (suit_count s r m)

five_same : (a b o q : List ℕ) → SameNumbers a b → SameNumbers o q → SameNumbers (if_five a o) (if_five b q)
five_same a b o q s t r =
    ap (λ (n : ℕ). count r (pick (leb 5 n) a o)) (same_length a b s) ∙ go (leb 5 (length b))
  where
    go : (c : Bool) → count r (pick c a o) ≡ count r (pick c b q)
    go true = s r
    go false = t r

flush_same : (l m : List ℕ) → SameNumbers l m → SameNumbers (flush_ranks l) (flush_ranks m)
unfolding flush_ranks
flush_same l m h =
    five_same (of_suit 0 l) (of_suit 0 m) _ _ (suit_same 0 l m h)
    (five_same (of_suit 1 l) (of_suit 1 m) _ _ (suit_same 1 l m h)
    (five_same (of_suit 2 l) (of_suit 2 m) _ _ (suit_same 2 l m h)
    (five_same (of_suit 3 l) (of_suit 3 m) [] [] (suit_same 3 l m h) (λ r. refl))))

-- the same cards in any two orders are counted alike, and named alike
pub counted_same : (l m : List ℕ) → SameNumbers l m → counted_hand l ≡ counted_hand m
unfolding counted_hand counts_of
counted_same l m h =
    let f = flush_same l m h in
    let r : SameNumbers (map rank l) (map rank m) = same_map rank l m h in
    ap named (λ i. record {
      flush = held_same 1 (flush_ranks l) (flush_ranks m) f i;
      once = held_same 1 (map rank l) (map rank m) r i;
      twice = held_same 2 (map rank l) (map rank m) r i;
      thrice = held_same 3 (map rank l) (map rank m) r i;
      fourfold = held_same 4 (map rank l) (map rank m) r i;
    })

-- ---- ranks carried over
pub all_at : (P : ℕ → Type 0) (l : List ℕ) (x : ℕ) → All P l → 0 < count x l → P x
all_at P [] x a h = absurd (omega arith)
all_at P (y ∷ l) x a h =
    ⊎_elim
    (λ (e : eqb x y ≡ true). subst P (sym (eqb-true x y e)) a.0)
    (λ (e : eqb x y ≡ false). let o : one (eqb x y) ≡ 0 = ap one e in all_at P l x a.1 (omega arith))
    (test (eqb x y))

-- what is there of a list carried over comes from the list
pub map_from : (f : ℕ → ℕ) (r : ℕ) (l : List ℕ) → 0 < count r (map f l) → (y : ℕ) × (f y ≡ r) × (0 < count y l)
map_from f r [] h = absurd (omega arith)
map_from f r (y ∷ l) h =
    ⊎_elim
    (λ (e : eqb r (f y) ≡ true). (y, sym (eqb-true r (f y) e), omega (arith, count_self y l)))
    (λ (e : eqb r (f y) ≡ false).
    let o : one (eqb r (f y)) ≡ 0 = ap one e in
    let q = map_from f r l (omega arith) in
    (q.0, q.1, omega (arith, q.2)))
    (test (eqb r (f y)))

module _ (f : ℕ → ℕ) (stays : f 0 ≡ 0) (strict : Strict f) where
  map_drops : (x : ℕ) (l : List ℕ) → Drops x l → Drops (f x) (map f l)
  map_drops x [] d = tt
  map_drops x (y ∷ l) d = (strict y x d.0, map_drops y l d.1)

  pub leaving_carried : (r : ℕ) (l : List ℕ) → leaving (f r) (map f l) ≡ map f (leaving r l)
  unfolding leaving
  leaving_carried r [] = refl
  leaving_carried r (x ∷ l) = rw (same_eqb f stays strict r x) (go (eqb r x) (leaving_carried r l))
    where
      go : (b : Bool) → leaving (f r) (map f l) ≡ map f (leaving r l)
          → pick b (leaving (f r) (map f l)) (f x ∷ leaving (f r) (map f l)) ≡ map f (pick b (leaving r l) (x ∷ leaving r l))
      go true ih = ih
      go false ih = ap (λ (m : List ℕ). f x ∷ m) ih

  pub held_carried : (k : ℕ) (rs : List ℕ) → 0 < k → All (λ x. x < 15) rs → All (λ x. x < 15) (map f rs) → held_times k (map f rs) ≡ map f (held_times k rs)
  held_carried k rs p a b =
      drops_same (15 + f 15) (held_times k (map f rs)) (map f (held_times k rs))
      (drops_up 15 (15 + f 15) (held_times k (map f rs)) (omega arith) (held_drops k (map f rs)))
      (drops_up (f 15) (15 + f 15) (map f (held_times k rs)) (omega arith) (map_drops 15 (held_times k rs) (held_drops k rs)))
      numbers
    where
      -- a rank that comes from y is there as y is
      from : (r y : ℕ) → f y ≡ r → 0 < count y rs → count r (held_times k (map f rs)) ≡ count r (map f (held_times k rs))
      from r y e h =
          let n : count r (map f rs) ≡ count y rs = ap (λ (v : ℕ). count v (map f rs)) (sym e) ∙ same_count f stays strict y rs in
          let q : count r (map f (held_times k rs)) ≡ count y (held_times k rs) = ap (λ (v : ℕ). count v (map f (held_times k rs))) (sym e) ∙ same_count f stays strict y (held_times k rs) in
          held_count k (map f rs) r (all_at (λ x. x < 15) (map f rs) r b (omega (arith, n, h)))
          ∙ ap (λ (v : ℕ). one (leb k v)) n
          ∙ sym (held_count k rs y (all_at (λ x. x < 15) rs y a h))
          ∙ sym q

      numbers : SameNumbers (held_times k (map f rs)) (map f (held_times k rs))
      numbers r = elim (dec_lt 0 (count r (held_times k (map f rs)))) [
        | yes h ↦
            let y = map_from f r rs (omega (arith, p, held_often k (map f rs) r h)) in
            from r y.0 y.1 y.2
        | no h ↦ elim (dec_lt 0 (count r (map f (held_times k rs)))) [
          | yes g ↦
              let y = map_from f r (held_times k rs) g in
              from r y.0 y.1 (omega (arith, p, held_often k rs y.0 y.2))
          | no g ↦ omega arith
        ]
      ]
