-- The order in which ranks are compared depends on the order of the ranks alone: ranks carried over by a function that keeps the order strictly are
-- compared in the order carried over. For lists of any length. Assumes nothing.
use mathlib.Core.Path.{◌≡◌, refl, sym, ap, ap₂, ◌∙◌}
use mathlib.Core.Bool.{Bool, true, false, cond}
use mathlib.Core.List.{List, [], ◌∷◌, map}
use Prim.Native.Nat.{ℕ, zero, suc, ◌<◌}
use native.Mathlib.Omega.{arith}
use lib.Dec.{eqb, leb}
use lib.ListN.{get_or}
use borrow.Author.Tests.{eq-eqb, ne_eqb, le-leb, lt-leb}
use Rattle.laws.specs.Tests.{one}
use Rattle.laws.specs.Often.{count}
use Rattle.laws.proofs.Compare.{Tri, under, level, over, tri}
use Rattle.cards.specs.Cards.{before, put, in_order, ordered}
use Rattle.cards.specs.Hands.{holdings}

module _ (f : ℕ → ℕ) (zero-stays : f 0 ≡ 0) (strict : (x y : ℕ) → x < y → f x < f y) where
  pub same_eqb : (x y : ℕ) → eqb (f x) (f y) ≡ eqb x y
  same_eqb x y = go (tri x y)
    where
      go : Tri x y → eqb (f x) (f y) ≡ eqb x y
      go (under a) = ne_eqb (f x) (f y) (λ e. omega (arith, strict x y a)) ∙ sym (ne_eqb x y (λ e. omega arith))
      go (level a) = eq-eqb (f x) (f y) (ap f a) ∙ sym (eq-eqb x y a)
      go (over a) = ne_eqb (f x) (f y) (λ e. omega (arith, strict y x a)) ∙ sym (ne_eqb x y (λ e. omega arith))

  same_leb : (x y : ℕ) → leb (f x) (f y) ≡ leb x y
  same_leb x y = go (tri x y)
    where
      go : Tri x y → leb (f x) (f y) ≡ leb x y
      go (under a) = le-leb (f x) (f y) (omega (arith, strict x y a)) ∙ sym (le-leb x y (omega arith))
      go (level a) = le-leb (f x) (f y) (omega (arith, ap f a)) ∙ sym (le-leb x y (omega arith))
      go (over a) = lt-leb (f x) (f y) (strict y x a) ∙ sym (lt-leb x y a)

  pub same_count : (x : ℕ) (l : List ℕ) → count (f x) (map f l) ≡ count x l
  same_count x [] = refl
  same_count x (y ∷ l) = let ih = same_count x l in omega (arith, ih, ap one (same_eqb x y))

  same_before : (rs : List ℕ) (x y : ℕ) → before (map f rs) (f x) (f y) ≡ before rs x y
  unfolding before
  same_before rs x y = rw (same_count x rs, same_count y rs, same_leb y x)

  carried_put : (rs : List ℕ) (x : ℕ) (l : List ℕ) → put (map f rs) (f x) (map f l) ≡ map f (put rs x l)
  unfolding put
  carried_put rs x [] = refl
  carried_put rs x (y ∷ l) = rw (same_before rs x y) (go (before rs x y) (carried_put rs y l) (carried_put rs x l))
    where
      go : (b : Bool) → put (map f rs) (f y) (map f l) ≡ map f (put rs y l) → put (map f rs) (f x) (map f l) ≡ map f (put rs x l)
          → cond b (f x ∷ put (map f rs) (f y) (map f l)) (f y ∷ put (map f rs) (f x) (map f l)) ≡ map f (cond b (x ∷ put rs y l) (y ∷ put rs x l))
      go true u v = ap (λ (m : List ℕ). f x ∷ m) u
      go false u v = ap (λ (m : List ℕ). f y ∷ m) v

  carried_order : (rs l : List ℕ) → in_order (map f rs) (map f l) ≡ map f (in_order rs l)
  unfolding in_order
  carried_order rs [] = refl
  carried_order rs (x ∷ l) = ap (put (map f rs) (f x)) (carried_order rs l) ∙ carried_put rs x (in_order rs l)

  pub carried_ordered : (rs : List ℕ) → ordered (map f rs) ≡ map f (ordered rs)
  unfolding ordered
  carried_ordered rs = carried_order rs rs

  same_counts : (rs l : List ℕ) → map (λ r. count r (map f rs)) (map f l) ≡ map (λ r. count r rs) l
  same_counts rs [] = refl
  same_counts rs (x ∷ l) = ap₂ ◌∷◌ (same_count x rs) (same_counts rs l)

  pub same_holdings : (rs : List ℕ) → holdings (map f rs) ≡ holdings rs
  same_holdings rs = ap (map (λ r. count r (map f rs))) (carried_ordered rs) ∙ same_counts rs (ordered rs)

  pub carried_at : (l : List ℕ) (k : ℕ) → get_or (map f l) k 0 ≡ f (get_or l k 0)
  carried_at [] k = sym zero-stays
  carried_at (x ∷ l) zero = refl
  carried_at (x ∷ l) (suc k) = carried_at l k
