-- A hand's worth does not depend on the order in which its cards are listed. For any number of cards. Assumes nothing.
use mathlib.Core.Path.{◌≡◌, refl, sym, ap, ap₂, ◌∙◌, subst}
use mathlib.Core.Bool.{Bool, true}
use mathlib.Core.Logic.{⊎_elim}
use mathlib.Core.List.{List, [], ◌∷◌, map}
use Prim.Native.Nat.{ℕ}
use native.Mathlib.Omega.{arith}
use lib.Dec.{eqb}
use lib.ListN.{length, get_or}
use borrow.Author.Tests.{eqb-true}
use Rattle.laws.specs.Tests.{one, both}
use Rattle.laws.specs.Often.{count, SameNumbers}
use Rattle.laws.proofs.Tests.{test, both_true}
use Rattle.laws.proofs.Compare.{same_test}
use Rattle.laws.proofs.Often.{count_self, same_map, same_length, tally_most}
use Rattle.cards.specs.Cards.{rank, suit, before, ordered, lowered, in_row, all_are, all_alike, one_suit, Leads, Falls}
use Rattle.cards.specs.Hands.{hand, holdings, ranks_of, class_of, class_of_cards, value_of}
use Rattle.cards.specs.declared.Ranking.{Ranking}
use Rattle.cards.proofs.Sorted.{ordered_right}
use Rattle.cards.proofs.Sole.{ordered_only}

-- the ranks in order depend only on how often each is held
module _ (rs ss : List ℕ) (s : SameNumbers rs ss) where
  same_before : (x y : ℕ) → before rs x y ≡ before ss x y
  unfolding before
  same_before x y = rw (s x, s y)

  same_leads : (x : ℕ) (l : List ℕ) → Leads rs x l → Leads ss x l
  same_leads x [] h = tt
  same_leads x (y ∷ l) h = sym (same_before x y) ∙ h

  same_falls : (l : List ℕ) → Falls rs l → Falls ss l
  same_falls [] f = tt
  same_falls (x ∷ l) f = (same_leads x l f.0, same_falls l f.1)

  pub same_ordered : ordered rs ≡ ordered ss
  same_ordered =
      ordered_only ss (ordered rs) (record { same = λ r. (ordered_right rs).same r ∙ s r; falls = same_falls (ordered rs) (ordered_right rs).falls })

  same_counts : (l : List ℕ) → map (λ r. count r rs) l ≡ map (λ r. count r ss) l
  same_counts [] = refl
  same_counts (x ∷ l) = ap₂ ◌∷◌ (s x) (same_counts l)

  same_holdings : holdings rs ≡ holdings ss
  same_holdings = same_counts (ordered rs) ∙ ap (map (λ r. count r ss)) same_ordered

pub all_count : (x : ℕ) (l : List ℕ) → all_are x l ≡ true → count x l ≡ length l
all_count x [] h = refl
all_count x (y ∷ l) h =
    let p = both_true (eqb x y) (all_are x l) h in
    let o : one (eqb x y) ≡ 1 = ap one p.0 in
    let ih : count x l ≡ length l = all_count x l p.1 in
    omega arith

count_all : (x : ℕ) (l : List ℕ) → count x l ≡ length l → all_are x l ≡ true
count_all x [] h = refl
count_all x (y ∷ l) h =
    ⊎_elim
    (λ (e : eqb x y ≡ true). let o : one (eqb x y) ≡ 1 = ap one e in ap (λ (b : Bool). both b (all_are x l)) e ∙ count_all x l (omega arith))
    (λ e. let o : one (eqb x y) ≡ 0 = ap one e in absurd (omega (arith, tally_most (eqb x) l)))
    (test (eqb x y))

alike_too : (l m : List ℕ) → SameNumbers l m → all_alike l ≡ true → all_alike m ≡ true
unfolding all_alike
alike_too l [] s h = refl
alike_too [] (y ∷ m) s h = absurd (omega (arith, s y, count_self y m))
alike_too (x ∷ l) (y ∷ m) s h =
    let n : count x (y ∷ m) ≡ length (y ∷ m) = omega (arith, s x, count_self x l, all_count x l h, same_length (x ∷ l) (y ∷ m) s) in
    let p = both_true (eqb x y) (all_are x m) (count_all x (y ∷ m) n) in
    subst (λ (v : ℕ). all_are v m ≡ true) (eqb-true x y p.0) p.1

same_alike : (l m : List ℕ) → SameNumbers l m → all_alike l ≡ all_alike m
same_alike l m s = same_test (all_alike l) (all_alike m) (alike_too l m s) (alike_too m l (λ x. sym (s x)))

-- the same cards, listed in any two orders, are worth the same
pub value_same : (t : Ranking) (l m : List ℕ) → SameNumbers l m → value_of t l ≡ value_of t m
unfolding value_of class_of_cards ranks_of one_suit
value_same t l m s =
    let r : SameNumbers (map rank l) (map rank m) = same_map rank l m s in
    let o : ordered (map rank l) ≡ ordered (map rank m) = same_ordered (map rank l) (map rank m) r in
    let h : holdings (map rank l) ≡ holdings (map rank m) = same_holdings (map rank l) (map rank m) r in
    ap₂ hand
    (ap₂ (λ (f : Bool) (hs : List ℕ). class_of (in_row (lowered t.foot (ordered (map rank l)))) f (get_or hs 0 0) (get_or hs (get_or hs 0 0) 0)) (same_alike (map suit l) (map suit m) (same_map suit l m s)) h
    ∙ ap (λ (os : List ℕ). class_of (in_row (lowered t.foot os)) (all_alike (map suit m)) (get_or (holdings (map rank m)) 0 0) (get_or (holdings (map rank m)) (get_or (holdings (map rank m)) 0 0) 0)) o)
    (ap (lowered t.foot) o)
