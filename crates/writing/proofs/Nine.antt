-- A number in nine digits has nine (`nine_is`), and a line of it is as long as its key and eleven bytes more (`nine_count`), whatever the number. Assumes nothing.
use mathlib.Core.Path.{◌≡◌, refl, ap, subst, ◌∙◌}
use mathlib.Core.List.{List, [], ◌∷◌, ◌++◌}
use Prim.Native.Nat.{ℕ, zero, suc, ◌+◌, ◌-◌, ◌≤◌}
use native.Mathlib.Omega.{arith}
use lib.ListN.{length, replicate, take, length-append, length-replicate}
use Rattle.text.specs.Number.{digits}
use Rattle.text.proofs.Numbers.{count_most}
use Rattle.writing.specs.AnswerSheet.{Wrote}
use Rattle.writing.specs.Nine.{nine_digits, nine_line}

pub nine_is : (n : ℕ) → length (nine_digits n) ≡ 9
unfolding nine_digits
nine_is n =
    let zeros : List ℕ = replicate (9 - length (digits n)) 48 in
    let z : length zeros ≡ 9 - length (digits n) = length-replicate (9 - length (digits n)) _ in
    omega (arith, length-append zeros (digits n), z, count_most n)

pub nine_count : (key : List ℕ) (n : ℕ) → length (nine_line key n) ≡ length key + 11
unfolding nine_line
nine_count key n =
    omega (
      arith,
      length-append (key ++ (61 ∷ []) ++ nine_digits n) (10 ∷ []),
      length-append (key ++ (61 ∷ [])) (nine_digits n),
      length-append key (61 ∷ []),
      nine_is n,
    )

-- the first k of so many zeros
abbrev pub zeros : ℕ → List ℕ
zeros k = replicate k 48

pub zeros_first : (m k : ℕ) → k ≤ m → take k (zeros m) ≡ zeros k
zeros_first m zero h = refl
zeros_first (suc m) (suc k) h = ap (λ (l : List ℕ). 48 ∷ l) (zeros_first m k (omega arith))
zeros_first zero (suc k) h = absurd (omega arith)

pub zeros_wrote : {k m r : ℕ} {old new : List ℕ} → k ≡ m → Wrote (take (9 - k - 0) (zeros 9)) old new r → Wrote (zeros (9 - m)) old new r
zeros_wrote {k} {m} {r} {old} {new} e w =
    let z : 9 - m - 0 ≡ 9 - m = omega arith in
    subst (λ (b : List ℕ). Wrote b old new r) (zeros_first 9 (9 - k - 0) (omega arith) ∙ ap (λ (j : ℕ). zeros (9 - j - 0)) e ∙ ap zeros z) w
