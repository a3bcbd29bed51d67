-- The columns into which a loop reads rows, a row at a time, are the rows' worths and counts. For any number of rows; of more than sixteen the first sixteen.
-- Assumes nothing.
--     column-at        what stands at a place of a column
--     worths_read, counts_read    the front of a column, where there are at most sixteen rows
use Prim.Native.Nat.{ℕ, zero, suc, ◌≤◌, ◌<◌}
use mathlib.Core.Path.{◌≡◌, refl, sym, ap, ◌∙◌}
use mathlib.Core.Logic.{⊎_elim}
use mathlib.Core.List.{List, map}
use native.Mathlib.Nat.{eq-or-lt_of_le, le_of_suc-le-suc}
use native.Mathlib.Omega.{arith}
use lib.ListN.{length, get_or, set, take, replicate, length-set, length-replicate, length-map, get_or-map, get_or-eq_default}
use lib.Seq.{ext_get_or, get_or-set_same, get_or-set_other, get_or-take, length-take-le}
use Rattle.tray.specs.Proposal.{most_rows}
use Rattle.rows.specs.declared.Row.{Row}
use Rattle.rows.specs.Rows.{no_row, worths_of, counts_of}
use Rattle.rows.specs.Columns.{columns_to}

-- one number of each of the first i rows
abbrev pub column : (Row → ℕ) → ℕ → List Row → List ℕ
column f zero rows = replicate most_rows 0
column f (suc i) rows = set (column f i rows) i (f (get_or rows i no_row))

module _ (rows : List Row) where
  pub worths_column : (i : ℕ) → (columns_to i rows).worths ≡ column (λ (r : Row). r.worth) i rows
  worths_column zero = refl
  worths_column (suc i) = ap (λ c. set c i (get_or rows i no_row).worth) (worths_column i)

  pub counts_column : (i : ℕ) → (columns_to i rows).counts ≡ column (λ (r : Row). r.count) i rows
  counts_column zero = refl
  counts_column (suc i) = ap (λ c. set c i (get_or rows i no_row).count) (counts_column i)

  module _ (f : Row → ℕ) where
    pub column-long : (i : ℕ) → length (column f i rows) ≡ most_rows
    column-long zero = length-replicate {A = ℕ} most_rows 0
    column-long (suc i) = length-set (column f i rows) i (f (get_or rows i no_row)) ∙ column-long i

    pub column-at : (i k d : ℕ) → k < i → k < most_rows → get_or (column f i rows) k d ≡ f (get_or rows k no_row)
    column-at zero k d a b = absurd (omega arith)
    column-at (suc i) k d a b =
        ⊎_elim
        (λ (e : k ≡ i). ap (λ j. get_or (set (column f i rows) i (f (get_or rows i no_row))) j d) e
        ∙ get_or-set_same (column f i rows) i (f (get_or rows i no_row)) d (omega (arith, column-long i, e, b))
        ∙ ap (λ j. f (get_or rows j no_row)) (sym e))
        (λ (l : k < i). get_or-set_other (column f i rows) i k (f (get_or rows i no_row)) d (λ e. absurd (omega (arith, e, l)))
        ∙ column-at i k d l b)
        (eq-or-lt_of_le (le_of_suc-le-suc a))

    -- past the sixteenth place there is none
    pub column-past : (i k d : ℕ) → most_rows ≤ k → get_or (column f i rows) k d ≡ d
    column-past i k d h = get_or-eq_default (column f i rows) d (omega (arith, column-long i, h))

    pub column-read : length rows ≤ most_rows → take (length rows) (column f (length rows) rows) ≡ map f rows
    column-read h =
        let n : ℕ = length rows in
        let l : length (take n (column f n rows)) ≡ n = length-take-le n (column f n rows) (omega (arith, column-long n, h)) in
        ext_get_or (f no_row) (take n (column f n rows)) (map f rows) (l ∙ sym (length-map rows f))
        (λ k o. get_or-take n (column f n rows) k (f no_row) (omega (arith, o, l))
        ∙ column-at n k (f no_row) (omega (arith, o, l)) (omega (arith, o, l, h))
        ∙ sym (get_or-map f rows k no_row))

  pub worths_read : length rows ≤ most_rows → take (length rows) (columns_to (length rows) rows).worths ≡ worths_of rows
  worths_read h = ap (take (length rows)) (worths_column (length rows)) ∙ column-read (λ (r : Row). r.worth) h

  pub counts_read : length rows ≤ most_rows → take (length rows) (columns_to (length rows) rows).counts ≡ counts_of rows
  counts_read h = ap (take (length rows)) (counts_column (length rows)) ∙ column-read (λ (r : Row). r.count) h
