-- Laws of the table sheet: lines used up, all lines good, and that a sheet that was read is a good one. Assumes nothing.
use mathlib.Core.Path.{◌≡◌, refl, sym, ap, ◌∙◌}
use mathlib.Core.List.{List}
use mathlib.Core.Bool.{Bool, true, false}
use mathlib.Core.Logic.{⊎_elim}
use native.Mathlib.Nat.{eq-or-lt_of_le, le_of_suc-le-suc}
use Prim.Native.Nat.{ℕ, zero, suc, ◌+◌, ◌-◌, ◌<◌}
use native.Mathlib.Omega.{arith}
use lib.ListN.{get_or}
use Rattle.std.specs.Prelude.{Ok, Err}
use Rattle.paper.specs.declared.refusal.Refusal.TheVariants.{BadSheet}
use Rattle.laws.specs.Tests.{pick, both}
use Rattle.text.specs.Line.{after_line, after_lines}
use Rattle.paper.specs.Paper.{sheet_by, is_sheet}
use Rattle.text.specs.TableSheet.{sheet_lines, sheet_number, is_value, value_in, all_good, values_from, sheet_with, sheet_of}
use Rattle.paper.specs.declared.Sheet.{Sheet}
use Rattle.laws.proofs.Tests.{both_true}

pub lines_none : (l : List ℕ) (k : ℕ) → k ≡ 0 → l ≡ after_lines k l
lines_none l k e = rw e

pub lines_one : (l m : List ℕ) (k : ℕ) → (k ≡ 0 → ⊥) → m ≡ after_line l → after_lines (k - 1) m ≡ after_lines k l
lines_one l m zero n e = absurd (n refl)
lines_one l m (suc k) n e = let d : suc k - 1 ≡ k = omega arith in rw (d, e)

-- ---- all lines are good, line by line

pub good_not : (n k : ℕ) (l : List ℕ) → k < n → is_value (sheet_number k l) ≡ false → all_good n l ≡ false
good_not zero k l h e = absurd (omega arith)
good_not (suc n) k l h e =
    ⊎_elim (λ q. rw (← q, e)) (λ q. let r = good_not n k l q e in go (is_value (sheet_number n l)) r)
    (eq-or-lt_of_le (le_of_suc-le-suc h))
  where
    go : (t : Bool) → all_good n l ≡ false → both t (all_good n l) ≡ false
    go true r = r
    go false r = refl

pub good_each : (n k : ℕ) (l : List ℕ) → k < n → all_good n l ≡ true → is_value (sheet_number k l) ≡ true
good_each zero k l h e = absurd (omega arith)
good_each (suc n) k l h e =
    let p = both_true (is_value (sheet_number n l)) (all_good n l) e in
    ⊎_elim (λ q. rw q p.0) (λ q. good_each n k l q p.1) (eq-or-lt_of_le (le_of_suc-le-suc h))

-- ---- the numbers of some lines

pub value_at : (n j k : ℕ) (l : List ℕ) → k < n → get_or (values_from n j l) k 0 ≡ value_in (sheet_number (j + k) l)
value_at zero j k l h = absurd (omega arith)
value_at (suc n) j zero l h = let e : j ≡ j + 0 = omega arith in ap (λ (i : ℕ). value_in (sheet_number i l)) e
value_at (suc n) j (suc k) l h =
    let e : j + 1 + k ≡ j + suc k = omega arith in
    value_at n (j + 1) k l (omega arith) ∙ ap (λ (i : ℕ). value_in (sheet_number i l)) e

-- lines with the same numbers make the same sheet
module _ (x y : List ℕ) where
  good_same : (n : ℕ) → ((k : ℕ) → k < n → sheet_number k x ≡ sheet_number k y) → all_good n x ≡ all_good n y
  good_same zero e = refl
  good_same (suc n) e = rw (e n (omega arith), good_same n (λ k h. e k (omega arith)))

  values_same : (n j : ℕ) → ((k : ℕ) → k < n → sheet_number (j + k) x ≡ sheet_number (j + k) y) → values_from n j x ≡ values_from n j y
  values_same zero j e = refl
  values_same (suc n) j e =
      let z : j + 0 ≡ j = omega arith in
      let here : sheet_number j x ≡ sheet_number j y = rw z at (e 0 (omega arith)) in
      let next : (k : ℕ) → k < n → sheet_number (j + 1 + k) x ≡ sheet_number (j + 1 + k) y =
      λ k h. let s : j + suc k ≡ j + 1 + k = omega arith in rw s at (e (suc k) (omega arith)) in
      rw (here, values_same n (j + 1) next)

  pub sheet_same : ((k : ℕ) → k < sheet_lines → sheet_number k x ≡ sheet_number k y) → sheet_of x ≡ sheet_of y
  unfolding sheet_of sheet_with
  sheet_same e =
      let v : values_from sheet_lines 0 x ≡ values_from sheet_lines 0 y = values_same sheet_lines 0 (λ k h. let z : 0 + k ≡ k = omega arith in rw z (e k h)) in
      ap (λ (b : Bool). pick (both b (is_sheet (sheet_with x))) (Ok (sheet_with x)) (Err BadSheet)) (good_same sheet_lines e)
      ∙ ap (λ (vs : List ℕ). pick (both (all_good sheet_lines y) (is_sheet (sheet_by vs))) (Ok (sheet_by vs)) (Err BadSheet)) v

-- ---- the three answers of reading a sheet

module _ (l : List ℕ) where
  pub sheet_bad : all_good sheet_lines l ≡ false → sheet_of l ≡ Err BadSheet
  unfolding sheet_of
  sheet_bad e = rw e

  pub sheet_crossed : all_good sheet_lines l ≡ true → is_sheet (sheet_with l) ≡ false → sheet_of l ≡ Err BadSheet
  unfolding sheet_of
  sheet_crossed e f = rw (e, f)

  pub sheet_good : all_good sheet_lines l ≡ true → is_sheet (sheet_with l) ≡ true → sheet_of l ≡ Ok (sheet_with l)
  unfolding sheet_of
  sheet_good e f = rw (e, f)

-- what a sheet that was read says: each line is good, the numbers are the sheet's, and they passed paper's test
pub sheet_said : (l : List ℕ) (s : Sheet) → sheet_of l ≡ Ok s → (all_good sheet_lines l ≡ true) × (sheet_with l ≡ s) × (is_sheet s ≡ true)
unfolding sheet_of
sheet_said l s e = go (both (all_good sheet_lines l) (is_sheet (sheet_with l))) refl e
  where
    go : (t : Bool) → both (all_good sheet_lines l) (is_sheet (sheet_with l)) ≡ t
        → pick t (Ok (sheet_with l)) (Err BadSheet) ≡ Ok s → (all_good sheet_lines l ≡ true) × (sheet_with l ≡ s) × (is_sheet s ≡ true)
    go false w v = let z : ◌≡◌ {A = ℕ} 0 1 = cc in absurd (omega arith)
    go true w v =
        let p = both_true (all_good sheet_lines l) (is_sheet (sheet_with l)) w in
        let m : sheet_with l ≡ s = cc in
        (p.0, m, sym (ap is_sheet m) ∙ p.1)

-- so it is a good sheet: that is the test itself
pub sheet_is : (l : List ℕ) (s : Sheet) → sheet_of l ≡ Ok s → is_sheet s ≡ true
sheet_is l s e = (sheet_said l s e).2
