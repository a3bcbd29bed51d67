-- The table of choices holds binomials, none above 792, and the code's quotients of products are its numbers. Assumes nothing.
use mathlib.Core.Path.{◌≡◌, refl, sym, ap₂, ◌∙◌}
use mathlib.Core.Bool.{Bool, true}
use Prim.Native.Nat.{ℕ, ◌+◌, ◌-◌, ◌*◌, ◌/◌, ◌%◌, ◌<◌, ◌≤◌}
use native.Mathlib.Nat.{mul-le-mul}
use native.Mathlib.Omega.{arith}
use lib.Dec.{eqb, leb}
use lib.ListN.{get_or}
use borrow.Author.Tests.{lt-ltb, le-ltb, leb-true, eqb-true}
use Rattle.laws.proofs.Rules.{all_below, below_all}
use Rattle.laws.specs.Listing.{binomial}
use Rattle.ladder.specs.Reckoned.{pascal, chosen_of}

none_above : all_below 78 (λ i. leb (get_or pascal i 0) 792) ≡ true
none_above = refl

pub choose_in : (n k : ℕ) → n < 13 → k ≤ 5 → (get_or pascal (13 * k + n) 0 ≡ chosen_of n k) × (get_or pascal (13 * k + n) 0 ≤ 792)
unfolding chosen_of
choose_in n k h g = (
  rw (lt-ltb n 13 h),
  leb-true (get_or pascal (13 * k + n) 0) 792 (below_all 78 (λ i. leb (get_or pascal i 0) 792) none_above (13 * k + n) (omega arith)),
)

pub choose_out : (n k : ℕ) → 13 ≤ n → (0 ≡ chosen_of n k) × (0 ≤ 792)
unfolding chosen_of
choose_out n k h = (rw (le-ltb n 13 h), omega arith)

all_binomials : all_below 78 (λ i. eqb (get_or pascal i 0) (binomial (i % 13) (i / 13))) ≡ true
all_binomials = refl

-- how many choices of k there are of n, as the general law says it (proofs/Choosing.antt, choices-many)
pub choose_binomial : (n k : ℕ) → n < 13 → k ≤ 5 → chosen_of n k ≡ binomial n k
unfolding chosen_of
choose_binomial n k h g =
    let i = 13 * k + n in
    let m : i % 13 ≡ n = omega arith in
    let d : i / 13 ≡ k = omega arith in
    rw (lt-ltb n 13 h)
    (eqb-true (get_or pascal i 0) (binomial (i % 13) (i / 13)) (below_all 78 (λ j. eqb (get_or pascal j 0) (binomial (j % 13) (j / 13))) all_binomials i (omega arith))
    ∙ ap₂ binomial m d)

-- ---- the code's products and quotients, computed for each n below 13: one more of the n - k that are left, among k + 1
step_right : ℕ → ℕ → Bool
step_right n k = eqb (chosen_of n k * (n - k) / (k + 1)) (chosen_of n (k + 1))

steps_right : all_below 13 (λ n. all_below 5 (step_right n)) ≡ true
unfolding step_right chosen_of
steps_right = refl

pub choose_step : (n k : ℕ) → n < 13 → k < 5 → chosen_of n k * (n - k) / (k + 1) ≡ chosen_of n (k + 1)
unfolding step_right
choose_step n k h g =
    eqb-true (chosen_of n k * (n - k) / (k + 1)) (chosen_of n (k + 1))
    (below_all 5 (step_right n) (below_all 13 (λ m. all_below 5 (step_right m)) steps_right n h) k g)

pub choose_none : (n : ℕ) → n < 13 → 1 ≡ chosen_of n 0
unfolding chosen_of
choose_none n h = sym (eqb-true (chosen_of n 0) 1 (below_all 13 (λ m. eqb (chosen_of m 0) 1) refl n h))

pub choose_small : (n k : ℕ) → n < 13 → k ≤ 5 → chosen_of n k ≤ 792
choose_small n k h g = omega (arith, (choose_in n k h g).0, (choose_in n k h g).1)

-- a product is of twelve numbers at most
pub choose_fits : (n k : ℕ) → n < 13 → k ≤ 5 → chosen_of n k * (n - k) ≤ 792 * 12
choose_fits n k h g = let few : n - k ≤ 12 = omega arith in mul-le-mul (choose_small n k h g) few
