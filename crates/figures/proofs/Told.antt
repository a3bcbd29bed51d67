-- What a reader makes of a number as it is shown is the number: the shown pot is the block's pot. Assumes nothing.
use mathlib.Core.Path.{◌≡◌, refl, sym, ap, ◌∙◌}
use mathlib.Core.List.{List, [], ◌∷◌}
use mathlib.Core.Bool.{Bool, true, false}
use mathlib.Core.Logic.{⊎_elim}
use Prim.Native.Nat.{ℕ, ◌+◌, ◌-◌, ◌*◌, ◌/◌, ◌%◌, ◌<◌, ◌^◌}
use native.Mathlib.Nat.{div-eq_of_lt}
use native.Mathlib.Omega.{arith}
use lib.Dec.{ltb}
use borrow.Author.Tests.{lt-ltb, le-ltb}
use Rattle.laws.specs.Tests.{pick}
use Rattle.laws.proofs.Sums.{le_or_lt}
use Rattle.text.specs.Number.{is_digit}
use Rattle.text.proofs.Numbers.{is_digit_law}
use Rattle.figures.specs.Grouped.{placed_at, comma_at, units_of, grouped_of, read_from}

-- what a reader who has read v makes of one byte more
abbrev tell : ℕ → ℕ → ℕ
tell v b = pick (is_digit b) (v * 10 + (b - 48)) v

digit_told : (q : ℕ) → tell (q / 10) (48 + q % 10) ≡ q
digit_told q = rw (is_digit_law (48 + q % 10) (omega arith) (omega arith)) (omega arith)

placed_told : (n p : ℕ) → tell (n / p / 10) (placed_at n p) ≡ n / p
unfolding placed_at
placed_told n p = ⊎_elim (λ q. rw (le-ltb n p q) (digit_told (n / p))) (λ q. rw (lt-ltb n p q, div-eq_of_lt q)) (le_or_lt p n)

comma_told : (v n p : ℕ) → tell v (comma_at n p) ≡ v
unfolding comma_at
comma_told v n p = go (ltb n p)
  where
    go : (t : Bool) → tell v (pick t 32 44) ≡ v
    go true = refl
    go false = refl

on : (n v b w : ℕ) (bs : List ℕ) → tell v b ≡ w → read_from w bs ≡ n → read_from v (b ∷ bs) ≡ n
on n v b w bs e f = ap (λ (x : ℕ). read_from x bs) e ∙ f

-- a place's digit, behind the places above it
place : (n p v : ℕ) (bs : List ℕ) → n / p / 10 ≡ v → read_from (n / p) bs ≡ n → read_from v (placed_at n p ∷ bs) ≡ n
place n p v bs e f = on n v (placed_at n p) (n / p) bs (rw e at (placed_told n p)) f

skip : (n p v : ℕ) (bs : List ℕ) → read_from v bs ≡ n → read_from v (comma_at n p ∷ bs) ≡ n
skip n p v bs f = on n v (comma_at n p) v bs (comma_told v n p) f

module _ (n : ℕ) where
  abbrev low : List ℕ
  low = placed_at n 100 ∷ placed_at n 10 ∷ units_of n ∷ []

  abbrev middle : List ℕ
  middle = placed_at n 100_000 ∷ placed_at n 10_000 ∷ placed_at n 1_000 ∷ comma_at n 1_000 ∷ low

  low_told : read_from (n / 1_000) low ≡ n
  unfolding units_of
  low_told =
      place n 100 (n / 1_000) (placed_at n 10 ∷ units_of n ∷ []) (omega arith)
      (place n 10 (n / 100) (units_of n ∷ []) (omega arith) (digit_told n))

  middle_told : read_from (n / 1_000_000) middle ≡ n
  middle_told =
      place n 100_000 (n / 1_000_000) (placed_at n 10_000 ∷ placed_at n 1_000 ∷ comma_at n 1_000 ∷ low) (omega arith)
      (place n 10_000 (n / 100_000) (placed_at n 1_000 ∷ comma_at n 1_000 ∷ low) (omega arith)
      (place n 1_000 (n / 10_000) (comma_at n 1_000 ∷ low) (omega arith) (skip n 1_000 (n / 1_000) low low_told)))

  -- a number of at most nine digits is read back from its eleven columns
  pub shown_read : n < 10 ^ 9 → read_from 0 (grouped_of n) ≡ n
  unfolding grouped_of
  shown_read h =
      place n 100_000_000 0 (placed_at n 10_000_000 ∷ placed_at n 1_000_000 ∷ comma_at n 1_000_000 ∷ middle) (omega arith)
      (place n 10_000_000 (n / 100_000_000) (placed_at n 1_000_000 ∷ comma_at n 1_000_000 ∷ middle) (omega arith)
      (place n 1_000_000 (n / 10_000_000) (comma_at n 1_000_000 ∷ middle) (omega arith) (skip n 1_000_000 (n / 1_000_000) middle middle_told)))

-- so two numbers that look alike are the same
pub shown_same : (m n : ℕ) → m < 10 ^ 9 → n < 10 ^ 9 → grouped_of m ≡ grouped_of n → m ≡ n
shown_same m n p q e = sym (shown_read m p) ∙ ap (read_from 0) e ∙ shown_read n q
