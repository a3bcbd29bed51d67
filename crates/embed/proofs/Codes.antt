-- The code of a call by the lengths of what was lent, test by test, and what it says where it is 0. Assumes nothing.
use Prim.Native.Nat.{ℕ, ◌≤◌, ◌<◌}
use mathlib.Core.Path.{◌≡◌, refl, sym, ap, ◌∙◌}
use mathlib.Core.Bool.{Bool}
use native.Mathlib.Omega.{arith}
use borrow.Author.Tests.{lt-ltb, le-ltb}
use lib.Dec.{ltb}
use Rattle.laws.specs.Tests.{pick}
use Rattle.stream.specs.Feeding.{longest_answer}
use Rattle.embed.specs.Lent.{state_size, no_state, no_out, no_counts, start_code, call_code}

abbrev Room : ℕ → ℕ → ℕ → ℕ → Type 0
Room state out counts want = (state_size ≤ state) × (longest_answer ≤ out) × (want ≤ counts)

pub short_state : (n : ℕ) → n < state_size → (no_state ≡ start_code n) × ((no_state ≡ 0 → state_size ≤ n) × (state_size ≤ n → no_state ≡ 0))
short_state n h = (sym (ap (λ (t : Bool). pick t no_state 0) (lt-ltb n state_size h)), (λ z. omega (arith, z), λ k. omega (arith, k, h)))

pub long_state : (n : ℕ) → state_size ≤ n → (◌≡◌ {A = ℕ} 0 (start_code n)) × ((◌≡◌ {A = ℕ} 0 0 → state_size ≤ n) × (state_size ≤ n → ◌≡◌ {A = ℕ} 0 0))
long_state n h = (sym (ap (λ (t : Bool). pick t no_state 0) (le-ltb n state_size h)), (λ _. h, λ _. refl))

module _ (state out counts want : ℕ) where
  -- past the first test, and past the second
  past_state : state_size ≤ state → call_code state out counts want ≡ pick (ltb out longest_answer) no_out (pick (ltb counts want) no_counts 0)
  past_state h = ap (λ (t : Bool). pick t no_state (pick (ltb out longest_answer) no_out (pick (ltb counts want) no_counts 0))) (le-ltb state state_size h)

  past_out : state_size ≤ state → longest_answer ≤ out → call_code state out counts want ≡ pick (ltb counts want) no_counts 0
  past_out h k = past_state h ∙ ap (λ (t : Bool). pick t no_out (pick (ltb counts want) no_counts 0)) (le-ltb out longest_answer k)

  pub code_state : state < state_size → (no_state ≡ call_code state out counts want) × (no_state ≡ 0 → Room state out counts want)
  code_state h = (
    sym (ap (λ (t : Bool). pick t no_state (pick (ltb out longest_answer) no_out (pick (ltb counts want) no_counts 0))) (lt-ltb state state_size h)),
    λ z. absurd (never z),
  )
    where
      never : ◌≡◌ {A = ℕ} 1 0 → ⊥
      never z = omega (arith, z)

  pub code_out : state_size ≤ state → out < longest_answer → (no_out ≡ call_code state out counts want) × (no_out ≡ 0 → Room state out counts want)
  code_out h k = (
    sym (past_state h ∙ ap (λ (t : Bool). pick t no_out (pick (ltb counts want) no_counts 0)) (lt-ltb out longest_answer k)),
    λ z. absurd (never z),
  )
    where
      never : ◌≡◌ {A = ℕ} 2 0 → ⊥
      never z = omega (arith, z)

  pub code_counts : state_size ≤ state → longest_answer ≤ out → counts < want → (no_counts ≡ call_code state out counts want) × (no_counts ≡ 0 → Room state out counts want)
  code_counts h k l = (
    sym (past_out h k ∙ ap (λ (t : Bool). pick t no_counts 0) (lt-ltb counts want l)),
    λ z. absurd (never z),
  )
    where
      never : ◌≡◌ {A = ℕ} 3 0 → ⊥
      never z = omega (arith, z)

  pub code_none : state_size ≤ state → longest_answer ≤ out → want ≤ counts
      → (◌≡◌ {A = ℕ} 0 (call_code state out counts want)) × (◌≡◌ {A = ℕ} 0 0 → Room state out counts want)
  code_none h k l = (sym (past_out h k ∙ ap (λ (t : Bool). pick t no_counts 0) (le-ltb counts want l)), λ _. (h, k, l))
