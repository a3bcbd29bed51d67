-- A sum over chairs, and a fact of every chair, after one chair is put down or every chair is swept. Over any number of chairs.
-- Assumes nothing.
use Prim.Native.Nat.{ℕ, zero, suc, ◌+◌, ◌≤◌}
use mathlib.Core.Bool.{Bool, true, false}
use mathlib.Core.Path.{◌≡◌, refl, sym, ap}
use mathlib.Core.List.{List, [], ◌∷◌, map}
use native.Mathlib.Omega.{arith}
use lib.Dec.{eqb}
use Rattle.laws.specs.Tests.{pick}
use Rattle.chairs.specs.Chairs.{chair_at, put_at, no_chair}
pub use Rattle.laws.specs.Lists.{All}
use Rattle.chairs.specs.declared.Chair.{Chair}

abbrev pub sum_over : (Chair → ℕ) → List Chair → ℕ
sum_over g [] = 0
sum_over g (c ∷ cs) = g c + sum_over g cs

-- a chair with more of what is summed; a seat that is not there gets no more
pub over_up : (g : Chair → ℕ) (cs : List Chair) (x : ℕ) (d : Chair) (m : ℕ) → g d ≡ g (chair_at cs x) + m → (chair_at cs x ≡ no_chair → m ≡ 0)
    → sum_over g (put_at cs x d) ≡ sum_over g cs + m
over_up g cs zero d m e z = omega (arith, z refl)
over_up g [] (suc k) d m e z = omega (arith, z refl)
over_up g (c ∷ cs) (suc zero) d m e z = omega (arith, e)
over_up g (c ∷ cs) (suc (suc k)) d m e z = omega (arith, over_up g cs (suc k) d m e z)

pub over_same : (g : Chair → ℕ) (cs : List Chair) (x : ℕ) (d : Chair) → g d ≡ g (chair_at cs x) → sum_over g (put_at cs x d) ≡ sum_over g cs
over_same g cs x d e = omega (arith, over_up g cs x d 0 (omega (arith, e)) (λ z. refl))

pub over_le : (g h : Chair → ℕ) (cs : List Chair) → ((c : Chair) → g c ≤ h c) → sum_over g cs ≤ sum_over h cs
over_le g h [] e = omega arith
over_le g h (c ∷ cs) e = omega (arith, e c, over_le g h cs e)

pub over_zero : (g : Chair → ℕ) (cs : List Chair) → ((c : Chair) → g c ≡ 0) → sum_over g cs ≡ 0
over_zero g [] e = refl
over_zero g (c ∷ cs) e = omega (arith, e c, over_zero g cs e)

-- f of the chairs with a key of s; where one chair at most has it, that is f of the chair
abbrev pub keyed : (Chair → ℕ) → ℕ → (Chair → ℕ) → Chair → ℕ
keyed key s f c = pick (eqb (key c) s) (f c) 0

module _ (key : Chair → ℕ) (s : ℕ) (f : Chair → ℕ) where
  pub keyed_none : (cs : List Chair) → sum_over (keyed key s (λ c. 1)) cs ≡ 0 → sum_over (keyed key s f) cs ≡ 0
  keyed_none [] h = refl
  keyed_none (c ∷ cs) h = go (eqb (key c) s) h (keyed_none cs)
    where
      go : (b : Bool) → pick b 1 0 + sum_over (keyed key s (λ c. 1)) cs ≡ 0
          → (sum_over (keyed key s (λ c. 1)) cs ≡ 0 → sum_over (keyed key s f) cs ≡ 0) → pick b (f c) 0 + sum_over (keyed key s f) cs ≡ 0
      go true q r = absurd (omega arith)
      go false q r = omega (arith, r (omega arith))

  pub keyed_at : (cs : List Chair) (x : ℕ) → eqb (key (chair_at cs x)) s ≡ true → (chair_at cs x ≡ no_chair → ⊥) → sum_over (keyed key s (λ c. 1)) cs ≤ 1
      → sum_over (keyed key s f) cs ≡ f (chair_at cs x)
  keyed_at cs zero e v o = absurd (v refl)
  keyed_at [] (suc k) e v o = absurd (v refl)
  keyed_at (c ∷ cs) (suc zero) e v o =
      let z = keyed_none cs (omega (arith, ap {B = ℕ} (λ b. pick b 1 0) e)) in
      omega (arith, ap (λ b. pick b (f c) 0) e, z)
  keyed_at (c ∷ cs) (suc (suc k)) e v o = go (eqb (key c) s) o (keyed_at cs (suc k) e v)
    where
      some : (cs : List Chair) (k : ℕ) → eqb (key (chair_at cs (suc k))) s ≡ true → (chair_at cs (suc k) ≡ no_chair → ⊥) → 1 ≤ sum_over (keyed key s (λ c. 1)) cs
      some [] k e v = absurd (v refl)
      some (c ∷ cs) zero e v = omega (arith, ap {B = ℕ} (λ b. pick b 1 0) e)
      some (c ∷ cs) (suc k) e v = omega (arith, some cs k e v)

      go : (b : Bool) → pick b 1 0 + sum_over (keyed key s (λ c. 1)) cs ≤ 1
          → (sum_over (keyed key s (λ c. 1)) cs ≤ 1 → sum_over (keyed key s f) cs ≡ f (chair_at cs (suc k)))
          → pick b (f c) 0 + sum_over (keyed key s f) cs ≡ f (chair_at cs (suc k))
      go true q r = absurd (omega (arith, some cs k e v))
      go false q r = omega (arith, r (omega arith))

module _ (P : Chair → Type 0) where
  pub all_at : (cs : List Chair) (x : ℕ) → P no_chair → All P cs → P (chair_at cs x)
  all_at cs zero n a = n
  all_at [] (suc k) n a = n
  all_at (c ∷ cs) (suc zero) n a = a.0
  all_at (c ∷ cs) (suc (suc k)) n a = all_at cs (suc k) n a.1

  pub all_put : (cs : List Chair) (x : ℕ) (d : Chair) → All P cs → P d → All P (put_at cs x d)
  all_put cs zero d a p = a
  all_put [] (suc k) d a p = tt
  all_put (c ∷ cs) (suc zero) d a p = (p, a.1)
  all_put (c ∷ cs) (suc (suc k)) d a p = (a.0, all_put cs (suc k) d a.1 p)

  pub all_map : (Q : Chair → Type 0) (f : Chair → Chair) (cs : List Chair) → All P cs → ((c : Chair) → P c → Q (f c)) → All Q (map f cs)
  all_map Q f [] a h = tt
  all_map Q f (c ∷ cs) a h = (h c a.0, all_map Q f cs a.1 h)

-- a sweep that leaves an empty chair as it is
pub map_at : (f : Chair → Chair) (cs : List Chair) (x : ℕ) → f no_chair ≡ no_chair → chair_at (map f cs) x ≡ f (chair_at cs x)
map_at f cs zero e = sym e
map_at f [] (suc k) e = sym e
map_at f (c ∷ cs) (suc zero) e = refl
map_at f (c ∷ cs) (suc (suc k)) e = map_at f cs (suc k) e
