-- A loop that goes up from 0 and sums, tests or lists: one turn more; and what such a sum, test or list says of each number below its bound.
-- Assumes nothing.
use Prim.Native.Nat.{ℕ, zero, suc, ◌+◌, ◌*◌, ◌≤◌, ◌<◌, zero-le}
use mathlib.Core.Path.{◌≡◌, refl, sym, ap, ◌∙◌}
use mathlib.Core.Bool.{Bool, true, false, true≢false}
use mathlib.Core.Logic.{⊎_elim}
use mathlib.Core.List.{List, [], ◌∷◌, ◌++◌}
use native.Mathlib.Nat.{eq-or-lt_of_le, le_of_suc-le-suc, suc-mul}
use native.Mathlib.Numerals.{add-one}
use native.Mathlib.Omega.{arith}
use lib.ListN.{length, get_or, take, set, length-append, get_or-append}
use lib.Seq.{take-suc-set, get_or_at}
use Rattle.laws.specs.Tests.{both}
use Rattle.laws.proofs.Tests.{both_true}
use Rattle.tray.specs.Counting.{sum_to, all_to, list_to}

pub sum_turn : (f : ℕ → ℕ) (i s x : ℕ) → s ≡ sum_to i f → x ≡ f i → s + x ≡ sum_to (i + 1) f
sum_turn f i s x e q = ap (λ k. k + x) e ∙ ap (λ k. sum_to i f + k) q ∙ sym (ap (λ k. sum_to k f) (add-one i))

pub all_turn : (f : ℕ → Bool) (i : ℕ) (t x r : Bool) → t ≡ all_to i f → x ≡ f i → r ≡ both t x → r ≡ all_to (i + 1) f
all_turn f i t x r e q w = w ∙ ap (λ k. both k x) e ∙ ap (λ k. both (all_to i f) k) q ∙ sym (ap (λ k. all_to k f) (add-one i))

-- one number more passes
pub all_more : (f : ℕ → Bool) (i : ℕ) → all_to i f ≡ true → f i ≡ true → all_to (i + 1) f ≡ true
all_more f i e q = ap (λ k. all_to k f) (add-one i) ∙ ap (λ t. both t (f i)) e ∙ q

-- a store at i lists one number more
pub list_turn : {A : Type 0} (f : ℕ → A) (l : List A) (i : ℕ) (x : A) → i < length l → take i l ≡ list_to i f → x ≡ f i → take (i + 1) (set l i x) ≡ list_to (i + 1) f
list_turn f l i x h e q =
    ap (λ k. take k (set l i x)) (add-one i)
    ∙ take-suc-set l i x h
    ∙ ap (λ k. k ++ (x ∷ [])) e
    ∙ ap (λ k. list_to i f ++ (k ∷ [])) q
    ∙ sym (ap (λ k. list_to k f) (add-one i))

-- a sum of numbers that are each at most b
pub sum_most : (n : ℕ) (f : ℕ → ℕ) (b : ℕ) → ((i : ℕ) → f i ≤ b) → sum_to n f ≤ n * b
sum_most zero f b h = zero-le
sum_most (suc n) f b h =
    let e : suc n * b ≡ n * b + b = suc-mul n b in
    omega (arith, e, sum_most n f b h, h n)

pub sum_same : (n : ℕ) (f g : ℕ → ℕ) → ((i : ℕ) → i < n → f i ≡ g i) → sum_to n f ≡ sum_to n g
sum_same zero f g h = refl
sum_same (suc n) f g h = ap (λ k. k + f n) (sum_same n f g (λ i l. h i (omega (arith, l)))) ∙ ap (λ k. sum_to n g + k) (h n (omega arith))

pub all_at : (n : ℕ) (f : ℕ → Bool) → all_to n f ≡ true → (k : ℕ) → k < n → f k ≡ true
all_at zero f e k h = absurd (omega arith)
all_at (suc n) f e k h =
    let p = both_true (all_to n f) (f n) e in
    ⊎_elim (λ q. ap f q ∙ p.1) (λ q. all_at n f p.0 k q) (eq-or-lt_of_le (le_of_suc-le-suc h))

-- where one number fails, not all pass
pub all_fails : (n : ℕ) (f : ℕ → Bool) (k : ℕ) → k < n → f k ≡ false → false ≡ all_to n f
all_fails n f k h e = go (all_to n f) refl
  where
    go : (t : Bool) → all_to n f ≡ t → false ≡ all_to n f
    go true q = absurd (true≢false (sym (all_at n f q k h) ∙ e))
    go false q = sym q

pub all_made : (n : ℕ) (f : ℕ → Bool) → ((k : ℕ) → k < n → f k ≡ true) → all_to n f ≡ true
all_made zero f h = refl
all_made (suc n) f h = ap (λ t. both t (f n)) (all_made n f (λ k l. h k (omega (arith, l)))) ∙ h n (omega arith)

pub all_same : (n : ℕ) (f g : ℕ → Bool) → ((k : ℕ) → k < n → f k ≡ g k) → all_to n f ≡ all_to n g
all_same zero f g h = refl
all_same (suc n) f g h = ap (λ t. both t (f n)) (all_same n f g (λ k l. h k (omega (arith, l)))) ∙ ap (λ t. both (all_to n g) t) (h n (omega arith))

pub list_long : {A : Type 0} (n : ℕ) (f : ℕ → A) → length (list_to n f) ≡ n
list_long zero f = refl
list_long (suc n) f = length-append (list_to n f) (f n ∷ []) ∙ ap (λ k. k + 1) (list_long n f) ∙ add-one n

pub list_at : {A : Type 0} (n : ℕ) (f : ℕ → A) (d : A) (k : ℕ) → k < n → get_or (list_to n f) k d ≡ f k
list_at zero f d k h = absurd (omega arith)
list_at (suc n) f d k h =
    ⊎_elim (λ q. get_or_at (list_to n f) (f n) [] d k (list_long n f ∙ sym q) ∙ ap f (sym q))
    (λ q. get_or-append (list_to n f) (f n ∷ []) d k (omega (arith, q, list_long n f)) ∙ list_at n f d k q)
    (eq-or-lt_of_le (le_of_suc-le-suc h))

-- after the last turn
pub sum_done : (f : ℕ → ℕ) (i n s : ℕ) → i ≡ n → s ≡ sum_to i f → s ≡ sum_to n f
sum_done f i n s e q = q ∙ ap (λ k. sum_to k f) e

pub all_done : (f : ℕ → Bool) (i n : ℕ) (t : Bool) → i ≡ n → t ≡ all_to i f → t ≡ all_to n f
all_done f i n t e q = q ∙ ap (λ k. all_to k f) e
