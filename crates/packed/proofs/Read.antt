-- What a reading loop keeps of the chairs, and an array spelled out: it has as many elements as its type says. Assumes nothing.
use mathlib.Core.Path.{◌≡◌, sym, ap, ◌∙◌}
use mathlib.Core.List.{List, [], ◌∷◌, ◌++◌, append-nil}
use Prim.Native.Nat.{ℕ, zero, suc, ◌+◌, ◌-◌, ◌*◌, ◌≤◌, ◌<◌}
use native.Mathlib.Omega.{arith}
use lib.ListN.{length, get_or, take, drop, set, drop_of_length-le}
use lib.Seq.{take_all, drop-cons, drop-drop}
use Rattle.laws.proofs.Places.{store_front}
use Rattle.chairs.specs.declared.Chair.{Chair}
use Rattle.packed.specs.Layout.{chair_in, chairs_in}

-- so many elements from a place on
abbrev from : ℕ → ℕ → List ℕ → List ℕ
from i zero k = []
from i (suc n) k = get_or k i 0 ∷ from (suc i) n k

from_is : (n i : ℕ) (k : List ℕ) → length k ≡ i + n → drop i k ≡ from i n k
from_is zero i k e = drop_of_length-le k {i = i} (omega (arith, e))
from_is (suc n) i k e = drop-cons k i 0 (omega (arith, e)) ∙ ap (λ (l : List ℕ). get_or k i 0 ∷ l) (from_is n (suc i) k (omega (arith, e)))

pub spelled : (n : ℕ) (k : List ℕ) → length k ≡ n → k ≡ from 0 n k
spelled n k e = from_is n 0 k (omega (arith, e))

-- ---- chair after chair

chairs_more : (n i : ℕ) (b : List ℕ) → i < n → chairs_in (n - i) (drop (28 * i) b) ≡ chair_in (drop (28 * i) b) ∷ chairs_in (n - (i + 1)) (drop (28 * (i + 1)) b)
unfolding chairs_in
chairs_more n i b h =
    let e : n - i ≡ suc (n - (i + 1)) = omega arith in
    let f : 28 * i + 28 ≡ 28 * (i + 1) = omega arith in
    ap (λ (k : ℕ). chairs_in k (drop (28 * i) b)) e ∙ ap (λ (l : List ℕ). chair_in (drop (28 * i) b) ∷ chairs_in (n - (i + 1)) l) (drop-drop 28 (28 * i) b ∙ ap (λ (k : ℕ). drop k b) f)

pub chairs_turn : (n i : ℕ) (b : List ℕ) (cs all : List Chair) {c : Chair} → i < n → i < length cs → c ≡ chair_in (drop (28 * i) b) → take i cs ++ chairs_in (n - i) (drop (28 * i) b) ≡ all
    → take (i + 1) (set cs i c) ++ chairs_in (n - (i + 1)) (drop (28 * (i + 1)) b) ≡ all
chairs_turn n i b cs all {c} h l e q =
    store_front cs i c (chairs_in (n - (i + 1)) (drop (28 * (i + 1)) b)) l
    ∙ ap (λ (d : Chair). take i cs ++ (d ∷ chairs_in (n - (i + 1)) (drop (28 * (i + 1)) b))) e
    ∙ ap (λ (k : List Chair). take i cs ++ k) (sym (chairs_more n i b h))
    ∙ q

pub chairs_done : (n i : ℕ) (b : List ℕ) (cs all : List Chair) → length cs ≡ n → n ≤ i → take i cs ++ chairs_in (n - i) (drop (28 * i) b) ≡ all → cs ≡ all
unfolding chairs_in
chairs_done n i b cs all e h q =
    let z : 0 ≡ n - i = omega arith in
    sym (take_all i cs (omega (arith, e, h))) ∙ sym (append-nil (take i cs)) ∙ ap (λ (k : ℕ). take i cs ++ chairs_in k (drop (28 * i) b)) z ∙ q
