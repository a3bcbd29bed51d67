-- What the walks over lent rows end with: the answer of the checker over the columns, and the rows with the counts after it, are the checker's answer for the
-- rows and the rows lowered where it accepts; the proposer's answer and list likewise. For any number of rows, too many as well. Assumes nothing.
use Prim.Native.Nat.{ℕ, zero, suc, ◌-◌, ◌≤◌, ◌<◌}
use mathlib.Core.Path.{◌≡◌, refl, sym, ap, ◌∙◌}
use mathlib.Core.Bool.{true, false}
use mathlib.Core.Logic.{⊎_elim}
use mathlib.Core.List.{List, [], ◌∷◌, ◌++◌}
use native.Mathlib.Nat.{le_of_suc-le-suc, not-suc-le-zero}
use native.Mathlib.Omega.{arith}
use lib.Dec.{eqb}
use lib.ListN.{length, get_or, drop, length-map, get_or-map, get_or-append}
use lib.Seq.{ext_get_or}
use borrow.Author.Tests.{le-leb, lt-leb, eqb-true, eqb-false}
use Rattle.laws.specs.Tests.{pick}
use Rattle.laws.proofs.Tests.{test}
use Rattle.laws.proofs.Sums.{le_or_lt}
use Rattle.tray.specs.Counting.{each_by}
use Rattle.tray.specs.Proposal.{most_rows, out_of_bounds, judged, counts_after, taken_from}
use Rattle.tray.proofs.Front.{each_long, each_at}
use Rattle.tray.proofs.Within.{fits_many}
use Rattle.tray.proofs.Judging.{judged_2, after_0, after_other}
use Rattle.proposer.specs.Proposer.{proposing, list_after}
use Rattle.rows.specs.declared.Row.{Row}
use Rattle.rows.specs.Rows.{no_row, worths_of, counts_of, lower, lower_all, judged_rows, rows_after, proposing_rows, list_of}
use Rattle.rows.specs.Columns.{Counted, columns_to, settled_of, recount, proposed_code, proposed_list}
use Rattle.rows.proofs.Reading.{counts_column, column-at, column-past, worths_read, counts_read}

-- within a list it does not matter what stands past its end
pub any_default : (l : List ℕ) (i d e : ℕ) → i < length l → get_or l i d ≡ get_or l i e
any_default [] i d e h = absurd (not-suc-le-zero h)
any_default (x ∷ l) zero d e h = refl
any_default (x ∷ l) (suc i) d e h = any_default l i d e (le_of_suc-le-suc h)

-- two ways to change each element that agree at every place
each_same : {A : Type 0} (d : A) (f g : ℕ → A → A) (xs : List A) → ((i : ℕ) → i < length xs → f i (get_or xs i d) ≡ g i (get_or xs i d)) → each_by f xs ≡ each_by g xs
each_same d f g xs h =
    ext_get_or d (each_by f xs) (each_by g xs) (each_long f xs ∙ sym (each_long g xs))
    (λ i o. let l : i < length xs = omega (arith, o, each_long f xs) in each_at d f xs i l ∙ h i l ∙ sym (each_at d g xs i l))

each_none : {A : Type 0} (d : A) (f : ℕ → A → A) (xs : List A) → ((i : ℕ) → i < length xs → f i (get_or xs i d) ≡ get_or xs i d) → each_by f xs ≡ xs
each_none d f xs h =
    ext_get_or d (each_by f xs) xs (each_long f xs) (λ i o. let l : i < length xs = omega (arith, o, each_long f xs) in each_at d f xs i l ∙ h i l)

module _ (rows : List Row) (paid p : List ℕ) where
  abbrev n : ℕ
  n = length rows

  abbrev sittings : ℕ
  sittings = length paid

  abbrev code : ℕ
  code = judged (worths_of rows) (counts_of rows) paid p

  -- the rows with these counts
  abbrev with : List ℕ → List Row
  with counts = each_by (recount counts) rows

  -- a row keeps its count where its column has it
  kept : (counts : List ℕ) → ((i : ℕ) → i < n → get_or counts i (get_or rows i no_row).count ≡ (get_or rows i no_row).count) → with counts ≡ rows
  kept counts h = each_none no_row (recount counts) rows (λ i l. ap (λ k. record { worth = (get_or rows i no_row).worth; count = k }) (h i l))

  long : (c : ℕ) → length (counts_after c sittings p (counts_of rows)) ≡ n
  long c =
      ⊎_elim
      (λ (e : eqb c 0 ≡ true). ap length (sym (after_0 c sittings p (counts_of rows) (eqb-true c 0 e))) ∙ each_long (λ i k. k - taken_from (length (counts_of rows)) sittings p i) (counts_of rows) ∙ length-map rows (λ (r : Row). r.count))
      (λ (e : eqb c 0 ≡ false). ap length (sym (after_other c sittings p (counts_of rows) (eqb-false c 0 e))) ∙ length-map rows (λ (r : Row). r.count))
      (test (eqb c 0))

  -- the counts after the answer, at the front of a column
  placed : (c : ℕ) (rest : List ℕ) → with (counts_after c sittings p (counts_of rows) ++ rest) ≡ rows_after c sittings p rows
  unfolding rows_after
  placed c rest =
      ⊎_elim
      (λ (e : eqb c 0 ≡ true).
      let cs : List ℕ = counts_of rows in
      let m : length cs ≡ n = length-map rows (λ (r : Row). r.count) in
      each_same no_row (recount (counts_after c sittings p cs ++ rest)) (λ i r. lower r (taken_from n sittings p i)) rows
      (λ i l. ap (λ k. record { worth = (get_or rows i no_row).worth; count = k })
      (get_or-append (counts_after c sittings p cs) rest (get_or rows i no_row).count i (omega (arith, l, long c))
      ∙ ap (λ t. get_or t i (get_or rows i no_row).count) (sym (after_0 c sittings p cs (eqb-true c 0 e)))
      ∙ each_at (get_or rows i no_row).count (λ j k. k - taken_from (length cs) sittings p j) cs i (omega (arith, l, m))
      ∙ ap (λ t. t - taken_from (length cs) sittings p i) (any_default cs i (get_or rows i no_row).count 0 (omega (arith, l, m)) ∙ get_or-map (λ (r : Row). r.count) rows i no_row)
      ∙ ap (λ t. (get_or rows i no_row).count - taken_from t sittings p i) m))
      ∙ ap (λ t. pick t (lower_all sittings p rows) rows) (sym e))
      (λ (e : eqb c 0 ≡ false).
      let cs : List ℕ = counts_of rows in
      let m : length cs ≡ n = length-map rows (λ (r : Row). r.count) in
      kept (counts_after c sittings p cs ++ rest)
      (λ i l. get_or-append (counts_after c sittings p cs) rest (get_or rows i no_row).count i (omega (arith, l, long c))
      ∙ ap (λ t. get_or t i (get_or rows i no_row).count) (sym (after_other c sittings p cs (eqb-false c 0 e)))
      ∙ any_default cs i (get_or rows i no_row).count 0 (omega (arith, l, m))
      ∙ get_or-map (λ (r : Row). r.count) rows i no_row)
      ∙ ap (λ t. pick t (lower_all sittings p rows) rows) (sym e))
      (test (eqb c 0))

  -- too many rows are out of bounds
  many : most_rows < n → out_of_bounds ≡ code
  many h =
      let m : length (worths_of rows) ≡ n = length-map rows (λ (r : Row). r.worth) in
      judged_2 (worths_of rows) (counts_of rows) paid p (sym (fits_many (worths_of rows) (counts_of rows) sittings (length p) (omega (arith, h, m))))

  -- the answer and the rows after it
  abbrev Ends : Counted → Type 0
  Ends s = (s.code ≡ judged_rows rows paid p) × (with s.counts ≡ rows_after s.code sittings p rows)

  few_rows : n ≤ most_rows → Ends (settled_of (columns_to n rows) n paid p)
  unfolding judged_rows
  few_rows h =
      rw (le-leb n most_rows h, worths_read rows h, counts_read rows h)
      (refl, placed code (drop n (columns_to n rows).counts))

  many_rows : most_rows < n → Ends (settled_of (columns_to n rows) n paid p)
  unfolding judged_rows rows_after
  many_rows h =
      rw (lt-leb n most_rows h) (
        many h,
        kept (columns_to n rows).counts (λ i l. ap (λ t. get_or t i (get_or rows i no_row).count) (counts_column rows n) ∙
            ⊎_elim
            (λ (o : most_rows ≤ i). column-past rows (λ (r : Row). r.count) n i (get_or rows i no_row).count o)
            (λ (o : i < most_rows). column-at rows (λ (r : Row). r.count) n i (get_or rows i no_row).count l o)
            (le_or_lt most_rows i)),
      )

  pub rows_settled : Ends (settled_of (columns_to n rows) n paid p)
  rows_settled = ⊎_elim few_rows many_rows (le_or_lt n most_rows)

-- ---- the same of the proposer
module _ (rows : List Row) (paid : List ℕ) where
  -- with too many rows it says 2
  many_proposed : (long : ℕ) → most_rows < length rows → proposing_rows rows paid long ≡ out_of_bounds
  unfolding proposing_rows proposing
  many_proposed long h =
      let m : length (worths_of rows) ≡ length rows = length-map rows (λ (r : Row). r.worth) in
      rw (sym (fits_many (worths_of rows) (counts_of rows) (length paid) long (omega (arith, h, m)))) refl

  few_proposed : (long : ℕ) → length rows ≤ most_rows → proposed_code (columns_to (length rows) rows) (length rows) paid long ≡ proposing_rows rows paid long
  unfolding proposing_rows
  few_proposed long h = rw (le-leb (length rows) most_rows h, worths_read rows h, counts_read rows h) refl

  pub rows_proposed : (long : ℕ) → proposed_code (columns_to (length rows) rows) (length rows) paid long ≡ proposing_rows rows paid long
  rows_proposed long =
      ⊎_elim
      (few_proposed long)
      (λ (h : most_rows < length rows). rw (lt-leb (length rows) most_rows h) (sym (many_proposed long h)))
      (le_or_lt (length rows) most_rows)

  few_listed : (code : ℕ) (old : List ℕ) → length rows ≤ most_rows → proposed_list code (columns_to (length rows) rows) (length rows) paid old ≡ list_of code rows paid old
  unfolding list_of
  few_listed code old h = rw (worths_read rows h, counts_read rows h) refl

  many_listed : (code : ℕ) (old : List ℕ) → code ≡ out_of_bounds → proposed_list code (columns_to (length rows) rows) (length rows) paid old ≡ list_of code rows paid old
  unfolding list_of list_after
  many_listed code old e = rw e refl

  pub rows_listed : (code : ℕ) (old : List ℕ) → code ≡ proposing_rows rows paid (length old)
      → proposed_list code (columns_to (length rows) rows) (length rows) paid old ≡ list_of code rows paid old
  rows_listed code old e =
      ⊎_elim (few_listed code old) (λ h. many_listed code old (e ∙ many_proposed (length old) h)) (le_or_lt (length rows) most_rows)
