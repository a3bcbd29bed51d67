-- A proposal cut into its sittings' parts: where each part lies, and one sitting's text behind those before it. Assumes nothing.
use Prim.Native.Nat.{ℕ, suc, ◌+◌, ◌-◌, ◌*◌, ◌≤◌, ◌<◌}
use mathlib.Core.Path.{◌≡◌, sym, ap, ◌∙◌, subst}
use mathlib.Core.List.{List, ◌++◌}
use native.Mathlib.Nat.{suc-mul, mul-le-mul, mul-le-mul_right}
use native.Mathlib.Numerals.{add-one}
use native.Mathlib.Omega.{arith}
use lib.ListN.{length, get_or, take, drop}
use borrow.Rule.Slice.PartMut.{mid_of, put_mid}
use Rattle.writing.specs.AnswerSheet.{Wrote}
use Rattle.writing.proofs.Sheets.{then}
use Rattle.payments.specs.Payments.{sitting_text, sittings_text}

module _ (n rows s : ℕ) (l : s < n) where
  -- the part of sitting s lies within the proposal
  pub part_within : s * rows + rows ≤ n * rows
  part_within = let m : suc s * rows ≤ n * rows = mul-le-mul_right rows l in omega (arith, m, suc-mul s rows)

  pub part_most : n ≤ 10 → rows ≤ 16 → s * rows + rows ≤ 160
  part_most a b = omega (arith, part_within, mul-le-mul a b)

-- as long as there are rows
pub part_long : (k rows : ℕ) → k + rows - k ≡ rows
part_long k rows = omega arith

-- one sitting more
pub sittings_turn : (sittings : List ℕ) (rows : ℕ) (p : List ℕ) (s k sitting : ℕ) {old mid new : List ℕ} {a r : ℕ} → k ≡ s * rows → sitting ≡ get_or sittings s 0
    → Wrote (sittings_text s sittings rows p) old mid a → Wrote (sitting_text sitting (mid_of k (k + rows - k) p)) (mid_of a (length mid - a) mid) new r
    → Wrote (sittings_text (s + 1) sittings rows p) old (put_mid a (length mid - a) mid new) (a + r)
sittings_turn sittings rows p s k sitting {old} {mid} {new} {a} {r} ek es w v =
    let e : sitting_text sitting (mid_of k (k + rows - k) p) ≡ sitting_text (get_or sittings s 0) (take rows (drop (s * rows) p)) =
    ap (λ t. sitting_text t (mid_of k (k + rows - k) p)) es
    ∙ ap (λ t. sitting_text (get_or sittings s 0) (take t (drop k p))) (part_long k rows)
    ∙ ap (λ t. sitting_text (get_or sittings s 0) (take rows (drop t p))) ek in
    subst (λ t. Wrote t old (put_mid a (length mid - a) mid new) (a + r)) (ap (λ t. sittings_text s sittings rows p ++ t) e ∙ sym (ap (λ t. sittings_text t sittings rows p) (add-one s))) (then w v)
