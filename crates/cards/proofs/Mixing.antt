-- The best hand of some cards, of any number, does not depend on the order in which they are listed. Assumes nothing.
use mathlib.Core.Path.{◌≡◌, refl, sym, ap, ◌∙◌}
use mathlib.Core.Bool.{false}
use mathlib.Core.Logic.{⊎_elim}
use mathlib.Core.List.{List, [], ◌∷◌, map, Memᴰ}
use Prim.Native.Nat.{ℕ, zero, suc, ◌≤◌}
use native.Mathlib.Omega.{arith}
use native.Mathlib.Decide.{dec_lt}
use lib.Dec.{eqb}
use lib.ListN.{length}
use borrow.Author.Tests.{eqb-true}
use Rattle.laws.specs.Tests.{one}
use Rattle.laws.specs.Often.{count, SameNumbers}
use Rattle.laws.proofs.Tests.{test}
use Rattle.laws.proofs.Often.{without, without_tally, without_length, count_self, same_length}
use Rattle.cards.specs.Hands.{value_of}
use Rattle.cards.specs.Order.{choices, best_of, Placed}
use Rattle.cards.specs.declared.Hand.{Hand}
use Rattle.cards.specs.declared.Ranking.{Ranking}
use Rattle.cards.proofs.Kept.{best_of_best}
use Rattle.cards.proofs.Only.{best_only}
use Rattle.cards.proofs.Mixed.{value_same}
use Rattle.cards.proofs.Falls.{fall_same}
use Rattle.cards.specs.Falls.{fall}

-- c is of l: no number is more often in it
abbrev pub Within : List ℕ → List ℕ → Type 0
Within c l = (x : ℕ) → count x c ≤ count x l

-- a choice of k of l is of l, and has k
pub choice_within : (k : ℕ) (l c : List ℕ) → Memᴰ c (choices k l) → Within c l × (length c ≡ k)
unfolding choices
choice_within zero l c i = let e = mathlib.Core.List.Memᴰ.eq_of_singleton i in (λ x. omega (arith, ap (count x) e), ap length e)
choice_within (suc k) [] c i = absurd (mathlib.Core.List.Memᴰ.not-nil i)
choice_within (suc k) (a ∷ l) c i =
    ⊎_elim
    (λ (j : Memᴰ c (map (λ m. a ∷ m) (choices k l))).
    let r = mathlib.Core.List.Memᴰ.of_map (λ m. a ∷ m) (choices k l) j in
    let ih = choice_within k l r.0 r.1 in (
      λ x. omega (arith, ap (count x) r.2, ih.0 x),
      omega (arith, ap length r.2, ih.1),
    ))
    (λ (j : Memᴰ c (choices (suc k) l)). let ih = choice_within (suc k) l c j in (λ x. omega (arith, ih.0 x), ih.1))
    (mathlib.Core.List.Memᴰ.append_cases (map (λ m. a ∷ m) (choices k l)) i)

-- what is of l and has k is a choice of k of l, up to the order
pub within_choice : (k : ℕ) (l c : List ℕ) → Within c l → length c ≡ k → (d : List ℕ) × Memᴰ d (choices k l) × SameNumbers c d
unfolding choices
within_choice zero l [] w n = ([], mathlib.Core.List.Memᴰ.head refl, λ x. refl)
within_choice zero l (y ∷ c) w n = absurd (omega arith)
within_choice (suc k) [] [] w n = absurd (omega arith)
within_choice (suc k) [] (y ∷ c) w n = absurd (omega (arith, w y, count_self y c))
within_choice (suc k) (a ∷ l) c w n = elim (dec_lt 0 (count a c)) [
  | yes h ↦
      let r = within_choice k l (without a c) (λ x. omega (arith, w x, without_tally (eqb x) a c h)) (omega (arith, without_length a c h)) in
      (a ∷ r.0, mathlib.Core.List.Memᴰ.append_left (choices (suc k) l) (mathlib.Core.List.Memᴰ.map (λ m. a ∷ m) r.1), λ x. omega (arith, without_tally (eqb x) a c h, r.2 x))
  | no h ↦
      let r = within_choice (suc k) l c (λ x. ⊎_elim
      (λ e. omega (arith, ap (λ (v : ℕ). count v c) (eqb-true x a e)))
      (λ (e : eqb x a ≡ false). let o : one (eqb x a) ≡ 0 = ap one e in omega (arith, w x))
      (test (eqb x a))) n in
      (r.0, mathlib.Core.List.Memᴰ.append_right (map (λ m. a ∷ m) (choices k l)) r.1, r.2)
]

module _ (t : Ranking) where
  -- each choice of the one list is worth what some choice of the other is
  same_choice : (k : ℕ) (l m : List ℕ) → SameNumbers l m → (h : Hand) → Memᴰ h (map (value_of t) (choices k l)) → Memᴰ h (map (value_of t) (choices k m))
  same_choice k l m s h i =
      let r = mathlib.Core.List.Memᴰ.of_map (value_of t) (choices k l) i in
      let w = choice_within k l r.0 r.1 in
      let q = within_choice k m r.0 (λ x. omega (arith, w.0 x, s x)) w.1 in
      mathlib.Core.List.Memᴰ.cast (sym r.2 ∙ value_same t r.0 q.0 q.2) (mathlib.Core.List.Memᴰ.map (value_of t) q.1)

  pub best_same : Placed t → (l m : List ℕ) → 5 ≤ length l → SameNumbers l m → best_of t l ≡ best_of t m
  best_same p l m n s =
      let b = best_of_best t p l n in
      best_only t p m (omega (arith, same_length l m s)) (best_of t l) (record {
        among = same_choice 5 l m s (best_of t l) b.among;
        top = λ h i. b.top h (same_choice 5 m l (λ x. sym (s x)) h i);
      })

  pub seven_same : Placed t → (l : List ℕ) → length l ≡ 7 → best_of t (fall l) ≡ best_of t l
  seven_same p l n = best_same p (fall l) l (omega (arith, same_length (fall l) l (fall_same l), n)) (fall_same l)
