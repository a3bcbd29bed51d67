-- What five cards are worth, told whether they are straight and whether they are a flush; and which of such hands beat which. Assumes nothing.
use mathlib.Core.Path.{◌≡◌, refl, ap, ap₂, ◌∙◌, subst}
use mathlib.Core.Bool.{Bool, true, false, cond, true≢false}
use mathlib.Core.List.{List, [], ◌∷◌, map}
use Prim.Native.Nat.{ℕ, ◌+◌, ◌-◌, ◌<◌, ◌≤◌}
use native.Mathlib.Omega.{arith}
use lib.Dec.{eqb}
use lib.ListN.{get_or}
use borrow.Author.Tests.{eqb-true}
use Rattle.laws.proofs.Compare.{Tri, under, level, over, tri}
use Rattle.laws.proofs.Rules.{below_all}
use Rattle.cards.specs.Cards.{rank, is_wheel, lowered, in_row, ordered, one_suit}
use Rattle.cards.specs.Hands.{hand, most_held, next_held, class_of, ranks_of, class_of_cards, value_of}
use Rattle.cards.specs.Order.{ranking52, beats_by}
use Rattle.cards.specs.declared.Hand.{Hand}
use Rattle.cards.proofs.Above.{lower, equal, beats_irrefl}
use Rattle.counts.specs.HandOrder.{rowed}
use Rattle.counts.proofs.Plainly.{plain_of}

-- the ranks of a choice, as they are compared
abbrev pub compared : List ℕ → List ℕ
compared c = lowered 2 (ordered (map rank c))

pub unlowered : (os : List ℕ) → in_row (lowered 2 os) ≡ false → lowered 2 os ≡ os
unfolding lowered in_row
unlowered os e = go (is_wheel 2 os) e
  where
    go : (b : Bool) → in_row (cond b (5 ∷ 4 ∷ 3 ∷ 2 ∷ 1 ∷ []) os) ≡ false → cond b (5 ∷ 4 ∷ 3 ∷ 2 ∷ 1 ∷ []) os ≡ os
    go true h = absurd (true≢false h)
    go false h = refl

pub value_by : (c : List ℕ) (s f : Bool) → in_row (compared c) ≡ s → one_suit c ≡ f → value_of ranking52 c ≡ hand (class_of s f (most_held (map rank c)) (next_held (map rank c))) (compared c)
unfolding value_of class_of_cards ranks_of
value_by c s f e g = ap₂ (λ (a b : Bool). hand (class_of a b (most_held (map rank c)) (next_held (map rank c))) (compared c)) e g

pub value_plain : (c : List ℕ) → in_row (compared c) ≡ false → one_suit c ≡ false → value_of ranking52 c ≡ plain_of (map rank c)
unfolding plain_of
value_plain c e f =
    value_by c false false e f ∙ ap (hand (class_of false false (most_held (map rank c)) (next_held (map rank c)))) (unlowered (ordered (map rank c)) e)

-- a straight, none twice
pub value_straight : (c rs : List ℕ) → in_row (compared c) ≡ true → one_suit c ≡ false → most_held (map rank c) ≡ 1 → compared c ≡ rs → value_of ranking52 c ≡ hand 4 rs
unfolding class_of
value_straight c rs e f o r =
    value_by c true false e f ∙ ap₂ (λ (m : ℕ) (l : List ℕ). hand (class_of true false m (next_held (map rank c))) l) o r

pub value_straight_flush : (c rs : List ℕ) → in_row (compared c) ≡ true → one_suit c ≡ true → compared c ≡ rs → value_of ranking52 c ≡ hand 0 rs
unfolding class_of
value_straight_flush c rs e f r = value_by c true true e f ∙ ap (hand 0) r

-- a flush, none twice
pub value_flush : (c rs : List ℕ) → in_row (compared c) ≡ false → one_suit c ≡ true → most_held (map rank c) ≡ 1 → ordered (map rank c) ≡ rs → value_of ranking52 c ≡ hand 3 rs
unfolding class_of
value_flush c rs e f o r =
    value_by c false true e f
    ∙ ap₂ (λ (m : ℕ) (l : List ℕ). hand (class_of false true m (next_held (map rank c))) l) o (unlowered (ordered (map rank c)) e ∙ r)

-- ---- which beats which
pub place_is : (k : ℕ) → k < 9 → get_or ranking52.places k 0 ≡ 9 - k
place_is k h = eqb-true _ _ (below_all 9 (λ j. eqb (get_or ranking52.places j 0) (9 - j)) refl k h)

-- a lower class does not beat a higher one
pub class_under : (h g : Hand) → g.class < h.class → h.class < 9 → beats_by ranking52 h g ≡ false
class_under h g lt le = lower _ _ _ _ (omega (arith, place_is h.class le, place_is g.class (omega arith)))

pub row_under : (k t u : ℕ) → t ≤ u → beats_by ranking52 (hand k (rowed t)) (hand k (rowed u)) ≡ false
row_under k t u h = go (tri t u)
  where
    go : Tri t u → beats_by ranking52 (hand k (rowed t)) (hand k (rowed u)) ≡ false
    go (under a) = equal _ _ _ _ refl ∙ lower (t + 4) (u + 4) _ _ (omega arith)
    go (level a) = subst (λ (v : ℕ). beats_by ranking52 (hand k (rowed t)) (hand k (rowed v)) ≡ false) a (beats_irrefl ranking52 (hand k (rowed t)))
    go (over a) = absurd (omega arith)
