-- A walk over a list from its last place to its first, and folds and sums over a list in the library's words. For any list.
-- Assumes nothing.
use Rattle.std.proofs.Common.{◌≡◌, ℕ, ◌+◌, ◌-◌, ◌≤◌, min, max, List, [], ◌∷◌, ◌++◌, map, length, refl, sym, ap, ◌∙◌, append_assoc, arith, fold, sum, sum_by, reverse}
use Rattle.std.specs.List.{push}
use Rattle.std.proofs.lemmas.List.Sums.{sum_by-cons, fold-append}
use Rattle.std.proofs.lemmas.Grind.{reverse_onto}
use Rattle.laws.specs.Lists.{sum_of, max_of}
use Rattle.pots.specs.Heights.{chips_over}
use Rattle.pots.proofs.Chips.{chips_cons, chips_none}

-- a turn: x is the last of what is left, and what was walked begins with it
pub back_turn : (left now done : List ℕ) {all : List ℕ} (x : ℕ) → left ≡ push now x → left ++ done ≡ all → now ++ (x ∷ done) ≡ all
back_turn left now done x e f = sym (append_assoc now (x ∷ []) done) ∙ ap (λ k. k ++ done) (sym e) ∙ f

-- after the last turn all is walked
pub back_done : (left : List ℕ) {done all : List ℕ} → length left ≡ 0 → left ++ done ≡ all → done ≡ all
back_done [] e f = f
back_done (x ∷ left) e f = absurd (omega (arith, e))

-- a fold from the last place on is g, where g goes so at each place
pub fold_back : {B : Type 0} (f : B → ℕ → B) (g : List ℕ → B) (b : B) → g [] ≡ b → ((x : ℕ) (xs : List ℕ) → g (x ∷ xs) ≡ f (g xs) x) → (xs : List ℕ) → fold f b (reverse xs) ≡ g xs
fold_back f g b z s [] = sym z
fold_back f g b z s (x ∷ xs) =
    ap (fold f b) (reverse_onto xs x []) ∙ fold-append f b (reverse xs) (x ∷ []) ∙ ap (λ k. f k x) (fold_back f g b z s xs) ∙ sym (s x xs)

-- the largest, from the first place on
max_from : (a : ℕ) (xs : List ℕ) → fold (λ m x. max x m) a xs ≡ max a (max_of xs)
unfolding max_of
max_from a [] = omega arith
max_from a (x ∷ xs) = omega (arith, max_from (max x a) xs)

pub max_is : (xs : List ℕ) → fold (λ m x. max x m) 0 xs ≡ max_of xs
max_is xs = omega (arith, max_from 0 xs)

-- the sum of a list
pub sum_is : (xs : List ℕ) → sum xs ≡ sum_of xs
unfolding sum_of
sum_is [] = refl
sum_is (x ∷ xs) = sum_by-cons (λ y. y) x xs ∙ ap (λ k. x + k) (sum_is xs)

-- the chips up to a height are so many of each sitting's
pub under_is : (ts : List ℕ) (h : ℕ) → sum_by (λ t. min t h) ts ≡ chips_over ts 0 h
under_is [] h = sym (chips_none 0 h)
under_is (t ∷ ts) h = omega (arith, sum_by-cons (λ u. min u h) t ts, under_is ts h, chips_cons t ts 0 h)

-- what the totals hold above a height
pub above_is : (ts : List ℕ) (top : ℕ) → sum_by (λ t. t - top) ts ≡ sum_of (map (λ t. t - top) ts)
unfolding sum_of
above_is [] top = refl
above_is (t ∷ ts) top = sum_by-cons (λ u. u - top) t ts ∙ ap (λ k. t - top + k) (above_is ts top)

pub above_le : (ts : List ℕ) (top : ℕ) → sum_of (map (λ t. t - top) ts) ≤ sum_of ts
unfolding sum_of
above_le [] top = omega arith
above_le (t ∷ ts) top = omega (arith, above_le ts top)
