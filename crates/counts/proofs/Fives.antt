-- Ranks that drop, each below the one before: they are in the order in which they are compared, and each is held once. Cards of such ranks, each of which is
-- there, are cards of the list. And of two lists that drop, the first ones of the one that has more are not below the other. For any number of ranks.
-- Assumes nothing.
use mathlib.Core.Path.{◌≡◌, refl, sym, ap, ap₂, ◌∙◌, subst}
use mathlib.Core.Bool.{Bool, true, false}
use mathlib.Core.Logic.{⊎_elim}
use mathlib.Core.List.{List, [], ◌∷◌, map}
use Prim.Native.Nat.{ℕ, suc, ◌<◌, ◌≤◌}
use native.Mathlib.Omega.{arith}
use lib.Dec.{eqb}
use lib.ListN.{length, get_or, take}
use borrow.Author.Tests.{eqb-true, ne_eqb}
use Rattle.laws.specs.Tests.{one}
use Rattle.laws.specs.Lists.{All}
use Rattle.laws.specs.Often.{tally, count}
use Rattle.laws.proofs.Tests.{test}
use Rattle.laws.proofs.Compare.{Tri, under, level, over, tri}
use Rattle.laws.proofs.Often.{without, without_tally, count_self}
use Rattle.cards.specs.Cards.{rank, ordered, Falls}
use Rattle.cards.specs.Hands.{most_held}
use Rattle.cards.specs.Order.{above}
use Rattle.cards.proofs.Above.{lower, equal}
use Rattle.cards.proofs.Ordered.{before_high}
use Rattle.cards.proofs.Sorted.{ordered_right}
use Rattle.cards.proofs.Sole.{ordered_only}
use Rattle.cards.proofs.Mixing.{Within}
use Rattle.laws.proofs.Choosing.{Drops}
use Rattle.counts.proofs.Passing.{drops_none}
use Rattle.counts.proofs.Counting.{map_from}

-- each is there once at most
pub drops_once : (x k : ℕ) (l : List ℕ) → Drops x l → count k l ≤ 1
drops_once x k [] d = omega arith
drops_once x k (y ∷ l) d =
    ⊎_elim
    (λ (e : eqb k y ≡ true). let o : one (eqb k y) ≡ 1 = ap one e in omega (arith, o, drops_none y k l d.1 (omega (arith, eqb-true k y e))))
    (λ (e : eqb k y ≡ false). let o : one (eqb k y) ≡ 0 = ap one e in omega (arith, o, drops_once y k l d.1))
    (test (eqb k y))

-- so they are in the order in which they are compared
drops_falls : (rs : List ℕ) (x : ℕ) (l : List ℕ) → Drops x l → ((k : ℕ) → 0 < count k l → count k rs ≡ 1) → Falls rs l
drops_falls rs x [] d h = tt
drops_falls rs x (y ∷ []) d h = (tt, tt)
drops_falls rs x (y ∷ z ∷ l) d h = (
  before_high rs y z (h y (omega (arith, count_self y (z ∷ l))) ∙ sym (h z (omega (arith, count_self z l)))) (omega (arith, d.1.0)),
  drops_falls rs y (z ∷ l) d.1 (λ k c. h k (omega arith)),
)

pub drops_ordered : (x : ℕ) (l : List ℕ) → Drops x l → ordered l ≡ l
drops_ordered x l d =
    sym (ordered_only l l (record { same = λ k. refl; falls = drops_falls l x l d (λ k c. omega (arith, c, drops_once x k l d)) }))

-- and the rank held most often is held once
pub most_one : (c : List ℕ) (x y : ℕ) (m : List ℕ) → ordered c ≡ y ∷ m → Drops x (y ∷ m) → most_held c ≡ 1
most_one c x y m e d =
    let n : count y (y ∷ m) ≡ 1 = omega (arith, count_self y m, drops_none y y m d.1 (omega arith)) in
    ap (λ (os : List ℕ). get_or (map (λ r. count r c) os) 0 0) e ∙ sym ((ordered_right c).same y) ∙ ap (count y) e ∙ n

-- ---- cards of ranks that drop
cards_of : (rs l : List ℕ) → All (λ k. 0 < count k (map rank l)) rs → (m : List ℕ) × (map rank m ≡ rs) × All (λ c. 0 < count c l) m
cards_of [] l a = ([], refl, tt)
cards_of (k ∷ rs) l a =
    let r = map_from rank k l a.0 in
    let s = cards_of rs l a.1 in
    (r.0 ∷ s.0, ap₂ ◌∷◌ r.1 s.1, (r.2, s.2))

none_again : (x c : ℕ) (m : List ℕ) → Drops x (map rank m) → x ≤ rank c → count c m ≡ 0
none_again x c [] d h = refl
none_again x c (b ∷ m) d h =
    let o : one (eqb c b) ≡ 0 = ap one (ne_eqb c b (λ e. omega (arith, ap rank e, d.0))) in
    omega (arith, o, none_again (rank b) c m d.1 (omega (arith, d.0)))

drop_within : (m l : List ℕ) (x : ℕ) → Drops x (map rank m) → All (λ c. 0 < count c l) m → Within m l
drop_within [] l x d a k = omega arith
drop_within (c ∷ m) l x d a k =
    ⊎_elim
    (λ (e : eqb k c ≡ true).
    let o : one (eqb k c) ≡ 1 = ap one e in
    let z : count k m ≡ 0 = ap (λ (v : ℕ). count v m) (eqb-true k c e) ∙ none_again (rank c) c m d.1 (omega arith) in
    let h : 0 < count k l = subst (λ (v : ℕ). 0 < count v l) (sym (eqb-true k c e)) a.0 in
    omega (arith, o, z, h))
    (λ (e : eqb k c ≡ false). let o : one (eqb k c) ≡ 0 = ap one e in omega (arith, o, drop_within m l (rank c) d.1 a.1 k))
    (test (eqb k c))

pub dropped_cards : (x : ℕ) (rs l : List ℕ) → Drops x rs → All (λ k. 0 < count k (map rank l)) rs → (m : List ℕ) × (map rank m ≡ rs) × Within m l
dropped_cards x rs l d a =
    let r = cards_of rs l a in
    (r.0, r.1, drop_within r.0 l x (subst (Drops x) (sym r.1) d) r.2)

-- ---- what is counted of some of a list is not more than of the list
pub tally_within : (f : ℕ → Bool) (c l : List ℕ) → Within c l → tally f c ≤ tally f l
tally_within f [] l w = omega arith
tally_within f (x ∷ c) l w =
    let h : 0 < count x l = omega (arith, w x, count_self x c) in
    let rest : Within c (without x l) = λ y. omega (arith, w y, without_tally (eqb y) x l h) in
    omega (arith, tally_within f c (without x l) rest, without_tally f x l h)

-- ---- the first ones of a list that drops, beside others of it that drop
pub first_ones : (x : ℕ) (m l : List ℕ) → Drops x m → Drops x l → Within m l → above m (take (length m) l) ≡ false
first_ones x [] l d f w = unfold above in refl
first_ones x (y ∷ m) [] d f w = absurd (omega (arith, w y, count_self y m))
first_ones x (y ∷ m) (z ∷ l) d f w = go (tri y z) (λ g v. first_ones y m l d.1 g v)
  where
    go : Tri y z → (Drops y l → Within m l → above m (take (length m) l) ≡ false) → above (y ∷ m) (z ∷ take (length m) l) ≡ false
    go (under a) ih = lower y z m (take (length m) l) a
    go (level a) ih =
        equal y z m (take (length m) l) a
        ∙ ih (subst (λ (v : ℕ). Drops v l) (sym a) f.1) (λ k. let o : one (eqb k y) ≡ one (eqb k z) = ap (λ (v : ℕ). one (eqb k v)) a in omega (arith, o, w k))
    go (over a) ih = absurd (omega (arith, w y, count_self y m, drops_none (suc z) y (z ∷ l) (omega arith, f.1) a))
