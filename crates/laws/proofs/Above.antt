-- Of two lists of numbers one is above the other by the first place where they differ: this is transitive, no list is above itself, and two lists of which neither is
-- above the other are the same. For lists of any length. Assumes nothing.
use mathlib.Core.Path.{◌≡◌, refl, sym, ap₂, ◌∙◌}
use mathlib.Core.Bool.{true, false, true≢false, false≢true}
use mathlib.Core.List.{List, [], ◌∷◌}
use Prim.Native.Nat.{ℕ, ◌<◌}
use native.Mathlib.Omega.{arith}
use borrow.Author.Tests.{eq-eqb, ne_eqb, lt-ltb, le-ltb}
use Rattle.laws.specs.Listing.{above}
use Rattle.laws.proofs.Compare.{Tri, under, level, over, tri}

module _ (x y : ℕ) (l m : List ℕ) where
  pub higher : y < x → above (x ∷ l) (y ∷ m) ≡ true
  unfolding above
  higher h = rw (ne_eqb x y (λ e. omega arith), lt-ltb y x h)

  pub lower : x < y → above (x ∷ l) (y ∷ m) ≡ false
  unfolding above
  lower h = rw (ne_eqb x y (λ e. omega arith), le-ltb y x (omega arith))

  pub equal : x ≡ y → above (x ∷ l) (y ∷ m) ≡ above l m
  unfolding above
  equal e = rw (eq-eqb x y e)

pub above_irrefl : (l : List ℕ) → above l l ≡ false
unfolding above
above_irrefl [] = refl
above_irrefl (x ∷ l) = equal x x l l refl ∙ above_irrefl l

pub above_trans : (l m n : List ℕ) → above l m ≡ true → above m n ≡ true → above l n ≡ true
unfolding above
above_trans [] m n p q = absurd (false≢true p)
above_trans (x ∷ l) [] n p q = absurd (false≢true q)
above_trans (x ∷ l) (y ∷ m) [] p q = refl
above_trans (x ∷ l) (y ∷ m) (z ∷ n) p q = go (tri x y) (tri y z) (above_trans l m n)
  where
    go : Tri x y → Tri y z → (above l m ≡ true → above m n ≡ true → above l n ≡ true) → above (x ∷ l) (z ∷ n) ≡ true
    go (under a) b ih = absurd (false≢true (sym (lower x y l m a) ∙ p))
    go (level a) (under b) ih = absurd (false≢true (sym (lower y z m n b) ∙ q))
    go (level a) (level b) ih = equal x z l n (a ∙ b) ∙ ih (sym (equal x y l m a) ∙ p) (sym (equal y z m n b) ∙ q)
    go (level a) (over b) ih = higher x z l n (omega arith)
    go (over a) (under b) ih = absurd (false≢true (sym (lower y z m n b) ∙ q))
    go (over a) (level b) ih = higher x z l n (omega arith)
    go (over a) (over b) ih = higher x z l n (omega arith)

pub above_total : (l m : List ℕ) → above l m ≡ false → above m l ≡ false → l ≡ m
unfolding above
above_total [] [] p q = refl
above_total [] (y ∷ m) p q = absurd (true≢false q)
above_total (x ∷ l) [] p q = absurd (true≢false p)
above_total (x ∷ l) (y ∷ m) p q = go (tri x y) (above_total l m)
  where
    go : Tri x y → (above l m ≡ false → above m l ≡ false → l ≡ m) → ◌≡◌ {A = List ℕ} (x ∷ l) (y ∷ m)
    go (under a) ih = absurd (true≢false (sym (higher y x m l a) ∙ q))
    go (level a) ih = ap₂ ◌∷◌ a (ih (sym (equal x y l m a) ∙ p) (sym (equal y x m l (sym a)) ∙ q))
    go (over a) ih = absurd (true≢false (sym (higher x y l m a) ∙ p))
