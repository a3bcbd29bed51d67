-- What code 2 asks, as facts: `fits` passes exactly if the tray, the number of sittings and the proposal's length are within their bounds.
-- Assumes nothing.
use Prim.Native.Nat.{ℕ, ◌*◌, ◌≤◌, ◌<◌}
use mathlib.Core.Path.{◌≡◌, refl, sym, ap, ◌∙◌}
use mathlib.Core.Bool.{Bool, true, false}
use mathlib.Core.Logic.{⊎_elim}
use mathlib.Core.List.{List}
use native.Mathlib.Omega.{arith}
use lib.Dec.{eqb, leb}
use lib.ListN.{length, get_or, get_or-eq_default}
use borrow.Author.Tests.{leb-true, eqb-true, lt-leb, le-leb, eq-eqb, ne_eqb}
use Rattle.laws.specs.Tests.{both}
use Rattle.laws.proofs.Tests.{both_true}
use Rattle.laws.proofs.Conjunction.{both_end, both_none}
use Rattle.laws.proofs.Sums.{le_or_lt}
use Rattle.tray.specs.Counting.{all_to}
use Rattle.tray.specs.Proposal.{row_fits, tray_fits, fits, most_rows, most_sittings, most_worth, most_count}
use Rattle.tray.proofs.Sums.{all_at, all_made}

-- a tray, a number of sittings and a proposal's length within their bounds
pub record Within (worths counts : List ℕ) (sittings n : ℕ) : Type 0 where
  pub rows : length worths ≤ most_rows
  pub same : length counts ≡ length worths
  pub few : sittings ≤ most_sittings
  pub long : n ≡ sittings * length worths
  pub least : (i : ℕ) → i < length worths → 1 ≤ get_or worths i 0
  pub worth : (i : ℕ) → get_or worths i 0 ≤ most_worth
  pub count : (i : ℕ) → get_or counts i 0 ≤ most_count

abbrev row_test : List ℕ → List ℕ → ℕ → Bool
row_test ws cs i = row_fits (get_or ws i 0) (get_or cs i 0)

-- a fact of each number of a list is one of each place, where it holds of 0
everywhere : (l : List ℕ) (b : ℕ) → ((i : ℕ) → i < length l → get_or l i 0 ≤ b) → (i : ℕ) → get_or l i 0 ≤ b
everywhere l b h i =
    ⊎_elim (λ (o : length l ≤ i). let e : get_or l i 0 ≡ 0 = get_or-eq_default l 0 o in omega (arith, e)) (λ o. h i o) (le_or_lt (length l) i)

module _ (ws cs : List ℕ) (n l : ℕ) where
  abbrev pub Rows : Bool
  Rows = all_to (length ws) (row_test ws cs)

  pub fits_many : most_rows < length ws → false ≡ fits ws cs n l
  unfolding fits
  fits_many h = rw (lt-leb (length ws) 16 h) refl

  pub fits_counts : (length cs ≡ length ws → ⊥) → false ≡ fits ws cs n l
  unfolding fits
  fits_counts h = rw (ne_eqb (length cs) (length ws) h, both_none (leb (length ws) 16)) refl

  pub fits_sittings : most_sittings < n → false ≡ fits ws cs n l
  unfolding fits
  fits_sittings h = rw (lt-leb n 10 h, both_none (tray_fits ws cs)) refl

  pub fits_rest : length ws ≤ most_rows → length cs ≡ length ws → n ≤ most_sittings → both Rows (eqb l (n * length ws)) ≡ fits ws cs n l
  unfolding fits
  fits_rest a b c = rw (le-leb (length ws) 16 a, eq-eqb (length cs) (length ws) b, le-leb n 10 c, both_end Rows) refl

  pub within : fits ws cs n l ≡ true → Within ws cs n l
  unfolding fits
  within e =
      let p = both_true (both (tray_fits ws cs) (leb n 10)) (eqb l (n * length ws)) e in
      let q = both_true (tray_fits ws cs) (leb n 10) p.0 in
      let t = both_true (both (leb (length ws) 16) (eqb (length cs) (length ws))) Rows q.0 in
      let u = both_true (leb (length ws) 16) (eqb (length cs) (length ws)) t.0 in
      let same : length cs ≡ length ws = eqb-true (length cs) (length ws) u.1 in
      record {
        rows = leb-true (length ws) 16 u.0;
        same = same;
        few = leb-true n 10 q.1;
        long = eqb-true l (n * length ws) p.1;
        least = λ i o. leb-true 1 (get_or ws i 0) (row i o).0.0;
        worth = everywhere ws 100000 (λ i o. leb-true (get_or ws i 0) 100000 (row i o).0.1);
        count = everywhere cs 10000 (λ i o. leb-true (get_or cs i 0) 10000 (row i (omega (arith, o, same))).1);
      }
    where
      row : (i : ℕ) → i < length ws → ((leb 1 (get_or ws i 0) ≡ true) × (leb (get_or ws i 0) 100000 ≡ true)) × (leb (get_or cs i 0) 10000 ≡ true)
      row i o =
          let p = both_true (both (tray_fits ws cs) (leb n 10)) (eqb l (n * length ws)) e in
          let q = both_true (tray_fits ws cs) (leb n 10) p.0 in
          let t = both_true (both (leb (length ws) 16) (eqb (length cs) (length ws))) Rows q.0 in
          let r = both_true (both (leb 1 (get_or ws i 0)) (leb (get_or ws i 0) 100000)) (leb (get_or cs i 0) 10000) (all_at (length ws) (row_test ws cs) t.1 i o) in
          (both_true (leb 1 (get_or ws i 0)) (leb (get_or ws i 0) 100000) r.0, r.1)

  pub without : Within ws cs n l → fits ws cs n l ≡ true
  without h =
      sym (fits_rest h.rows h.same h.few)
      ∙ ap (λ t. both t (eqb l (n * length ws))) (all_made (length ws) (row_test ws cs) (λ i o. rw (le-leb 1 (get_or ws i 0) (h.least i o), le-leb (get_or ws i 0) 100000 (h.worth i), le-leb (get_or cs i 0) 10000 (h.count i)) refl))
      ∙ eq-eqb l (n * length ws) h.long
