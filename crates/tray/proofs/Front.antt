-- A list after i turns of a loop that changes each element by what stands for its place: the first i changed, the rest as they were. Assumes nothing.
--     front_turn    one more turn changes element i
--     front_long    there are as many elements as before
--     front_all     after as many turns as there are elements, all are changed
use mathlib.Core.Path.{◌≡◌, refl, sym, ap, ◌∙◌}
use native.Mathlib.Numerals.{add-one}
use Prim.Native.Nat.{ℕ, zero, suc, ◌+◌, ◌<◌, ◌≤◌}
use native.Mathlib.Nat.{le_of_suc-le-suc, not-suc-le-zero}
use mathlib.Core.List.{List, [], ◌∷◌}
use lib.ListN.{length, get_or, set}
use Rattle.tray.specs.Counting.{each_by}

abbrev pub front_by : {A : Type 0} → ℕ → (ℕ → A → A) → List A → List A
front_by zero f xs = xs
front_by (suc i) f [] = []
front_by (suc i) f (x ∷ xs) = f 0 x ∷ front_by i (λ j. f (suc j)) xs

pub front_turn : {A : Type 0} (d : A) (i : ℕ) (f : ℕ → A → A) (xs : List A) → i < length xs → set (front_by i f xs) i (f i (get_or (front_by i f xs) i d)) ≡ front_by (suc i) f xs
front_turn d zero f [] l = absurd (not-suc-le-zero l)
front_turn d (suc i) f [] l = absurd (not-suc-le-zero l)
front_turn d zero f (x ∷ xs) l = refl
front_turn d (suc i) f (x ∷ xs) l = ap (λ t. f 0 x ∷ t) (front_turn d i (λ j. f (suc j)) xs (le_of_suc-le-suc l))

pub front_long : {A : Type 0} (i : ℕ) (f : ℕ → A → A) (xs : List A) → length (front_by i f xs) ≡ length xs
front_long zero f xs = refl
front_long (suc i) f [] = refl
front_long (suc i) f (x ∷ xs) = ap suc (front_long i (λ j. f (suc j)) xs)

pub front_all : {A : Type 0} (i : ℕ) (f : ℕ → A → A) (xs : List A) → length xs ≤ i → front_by i f xs ≡ each_by f xs
front_all zero f [] l = refl
front_all zero f (x ∷ xs) l = absurd (not-suc-le-zero l)
front_all (suc i) f [] l = refl
front_all (suc i) f (x ∷ xs) l = ap (λ t. f 0 x ∷ t) (front_all i (λ j. f (suc j)) xs (le_of_suc-le-suc l))

pub each_long : {A : Type 0} (f : ℕ → A → A) (xs : List A) → length (each_by f xs) ≡ length xs
each_long f [] = refl
each_long f (x ∷ xs) = ap suc (each_long (λ j. f (suc j)) xs)

pub each_at : {A : Type 0} (d : A) (f : ℕ → A → A) (xs : List A) (i : ℕ) → i < length xs → get_or (each_by f xs) i d ≡ f i (get_or xs i d)
each_at d f [] i l = absurd (not-suc-le-zero l)
each_at d f (x ∷ xs) zero l = refl
each_at d f (x ∷ xs) (suc i) l = each_at d (λ j. f (suc j)) xs i (le_of_suc-le-suc l)

-- a turn of the loop, as it stands in the code
pub each_turn : {A : Type 0} (d : A) (f : ℕ → A → A) (xs ys : List A) (i : ℕ) (y : A) → i < length xs → ys ≡ front_by i f xs → y ≡ f i (get_or ys i d) → set ys i y ≡ front_by (i + 1) f xs
each_turn d f xs ys i y l e q =
    ap (λ t. set ys i t) q
    ∙ ap (λ t. set t i (f i (get_or t i d))) e
    ∙ front_turn d i f xs l
    ∙ sym (ap (λ k. front_by k f xs) (add-one i))

-- after the last turn
pub each_done : {A : Type 0} (f : ℕ → A → A) (xs ys : List A) (i : ℕ) → length xs ≤ i → ys ≡ front_by i f xs → ys ≡ each_by f xs
each_done f xs ys i l e = e ∙ front_all i f xs l
