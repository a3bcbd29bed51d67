-- Request No. 1, the sheet: reading what was written gives the same sheet and the rest, and a sheet that the reader accepts is written back byte for
-- byte. By the table of sheet lines, for any bytes behind it. Assumes nothing.
use mathlib.Core.Path.{◌≡◌, refl, sym, ap, ◌∙◌}
use mathlib.Core.List.{List, [], ◌∷◌, ◌++◌, append_assoc}
use mathlib.Core.Bool.{Bool, true, true≢false}
use Prim.Native.Nat.{ℕ, zero, suc, ◌+◌, ◌≤◌, ◌<◌, ◌^◌}
use native.Mathlib.Numerals.{add-one}
use native.Mathlib.Omega.{arith}
use lib.ListN.{length, get_or, drop, drop_of_length-le}
use lib.Seq.{drop-cons}
use lib.Dec.{leb}
use borrow.Author.Tests.{leb-true}
use Rattle.std.specs.Prelude.{Option, Some, None, Ok}
use Rattle.laws.specs.Tests.{both}
use Rattle.laws.proofs.Tests.{both_true}
use Rattle.laws.proofs.Rules.{all_below, below_all}
use Rattle.paper.specs.Paper.{between, sheet_values, sheet_by, is_sheet}
use Rattle.paper.specs.declared.Sheet.{Sheet}
use Rattle.paper.proofs.Codes.{between_in}
use Rattle.paper.proofs.Sheets.{good_small, sheet_made}
use Rattle.text.specs.Line.{after_line, line_number, number_line, after_lines}
use Rattle.blocks.specs.Block.{all_letters}
use Rattle.text.specs.TableSheet.{sheet_lines, sheet_keys, sheet_number, is_value, value_in, all_good, values_from, sheet_with, sheet_of, sheet_end}
use Rattle.text.proofs.RoundTrip.{NoLF, read_line, read_rest}
use Rattle.text.proofs.ReadBack.{line_back}
use Rattle.text.proofs.SheetLaws.{good_each, value_at, sheet_good, sheet_said}
use Rattle.logs.specs.LogText.{number_lines, sheet_text}

-- ---- lines by a table of keys, of any length

-- a line, then the lines of the rest of the table
pub lines_on : (ks : List (List ℕ)) (vs : List ℕ) (k : ℕ) → k < length ks → k < length vs
    → number_lines (drop k ks) (drop k vs) ≡ number_line (get_or ks k []) (get_or vs k 0) ++ number_lines (drop (k + 1) ks) (drop (k + 1) vs)
lines_on ks vs k h i = rw (add-one k, drop-cons ks k [] h, drop-cons vs k 0 i)

pub lines_end : (ks : List (List ℕ)) (vs : List ℕ) (k : ℕ) → length ks ≤ k → number_lines (drop k ks) (drop k vs) ≡ []
lines_end ks vs k h = rw (drop_of_length-le ks h)

-- keys and numbers that make lines which can be read: the keys have no LF and are not too long, the numbers at most nine digits
abbrev Fit : List (List ℕ) → List ℕ → Type 0
Fit ks vs = (k : ℕ) → k < length ks → NoLF (get_or ks k []) × (length (get_or ks k []) ≤ 22) × (get_or vs k 0 < 10 ^ 9) × (k < length vs)

fit_tail : (key : List ℕ) (v : ℕ) (ks : List (List ℕ)) (vs : List ℕ) → Fit (key ∷ ks) (v ∷ vs) → Fit ks vs
fit_tail key v ks vs f k h = let q = f (suc k) (omega arith) in (q.0, q.1, q.2, omega (arith, q.3))

-- k lines are used up
after_lines_law : (k : ℕ) (ks : List (List ℕ)) (vs rest : List ℕ) → Fit ks vs → k ≤ length ks
    → after_lines k (number_lines ks vs ++ rest) ≡ number_lines (drop k ks) (drop k vs) ++ rest
after_lines_law zero ks vs rest f h = refl
after_lines_law (suc k) [] vs rest f h = absurd (omega arith)
after_lines_law (suc k) (key ∷ ks) [] rest f h = absurd (omega (arith, (f 0 (omega arith)).3))
after_lines_law (suc k) (key ∷ ks) (v ∷ vs) rest f h =
    let q = f 0 (omega arith) in
    ap (λ (l : List ℕ). after_lines k (after_line l)) (append_assoc (number_line key v) (number_lines ks vs) rest)
    ∙ ap (after_lines k) (read_rest key (number_lines ks vs ++ rest) v q.0 q.2)
    ∙ after_lines_law k ks vs rest (fit_tail key v ks vs f) (omega arith)

-- and the next one is read
line_number_law : (k : ℕ) (ks : List (List ℕ)) (vs rest : List ℕ) → Fit ks vs → k < length ks
    → line_number (get_or ks k []) (number_lines (drop k ks) (drop k vs) ++ rest) ≡ Some (get_or vs k 0)
line_number_law k [] vs rest f h = absurd (omega arith)
line_number_law k (key ∷ ks) [] rest f h = absurd (omega (arith, (f 0 (omega arith)).3))
line_number_law zero (key ∷ ks) (v ∷ vs) rest f h =
    let q = f 0 (omega arith) in
    ap (line_number key) (append_assoc (number_line key v) (number_lines ks vs) rest) ∙ read_line key (number_lines ks vs ++ rest) v q.0 q.2 q.1
line_number_law (suc k) (key ∷ ks) (v ∷ vs) rest f h = line_number_law k ks vs rest (fit_tail key v ks vs f) (omega arith)

-- small letters have no LF among them
pub letters_no : (w : List ℕ) → all_letters w ≡ true → NoLF w
letters_no [] e = tt
letters_no (b ∷ w) e =
    let p = both_true (between 97 122 b) (all_letters w) e in
    let r = between_in 97 122 b p.0 in
    (λ q. omega arith, letters_no w p.1)

-- ---- the sheet's table: a row of the paper for each line

-- the keys are letters, few of them
abbrev right : ℕ → Bool
right k = both (all_letters (get_or sheet_keys k [])) (leb (length (get_or sheet_keys k [])) 22)

all_right : all_below sheet_lines right ≡ true
all_right = refl

row_is : (k : ℕ) → k < sheet_lines → (all_letters (get_or sheet_keys k []) ≡ true) × (length (get_or sheet_keys k []) ≤ 22)
row_is k h =
    let few = leb (length (get_or sheet_keys k [])) 22 in
    let p = both_true (all_letters (get_or sheet_keys k [])) few (below_all sheet_lines right all_right k h) in
    (p.0, leb-true _ _ p.1)

fit : (s : Sheet) → is_sheet s ≡ true → Fit sheet_keys (sheet_values s)
fit s good k h =
    let p = row_is k h in
    (letters_no (get_or sheet_keys k []) p.0, p.1, good_small s good k, h)

-- ---- reading what was written

module _ (s : Sheet) (good : is_sheet s ≡ true) (rest : List ℕ) where
  number_read : (k : ℕ) → k < sheet_lines → sheet_number k (sheet_text s ++ rest) ≡ Some (get_or (sheet_values s) k 0)
  unfolding sheet_number sheet_text
  number_read k h =
      rw (after_lines_law k sheet_keys (sheet_values s) rest (fit s good) (omega arith), line_number_law k sheet_keys (sheet_values s) rest (fit s good) h)

  all_read : (n : ℕ) → n ≤ sheet_lines → all_good n (sheet_text s ++ rest) ≡ true
  all_read zero h = refl
  all_read (suc n) h = rw (number_read n (omega arith), all_read n (omega arith))

  values_read : (n k : ℕ) → k + n ≡ sheet_lines → values_from n k (sheet_text s ++ rest) ≡ drop k (sheet_values s)
  values_read zero k h = sym (drop_of_length-le (sheet_values s) {i = k} (omega arith))
  values_read (suc n) k h =
      ap (λ (x : Option ℕ). value_in x ∷ values_from n (k + 1) (sheet_text s ++ rest)) (number_read k (omega arith))
      ∙ ap (λ (vs : List ℕ). get_or (sheet_values s) k 0 ∷ vs) (values_read n (k + 1) (omega arith) ∙ ap (λ (i : ℕ). drop i (sheet_values s)) (add-one k))
      ∙ sym (drop-cons (sheet_values s) k 0 (omega arith))

  with_read : sheet_with (sheet_text s ++ rest) ≡ s
  unfolding sheet_with
  with_read = ap sheet_by (values_read sheet_lines 0 refl) ∙ sheet_made s

  -- the same sheet
  pub sheet_read : sheet_of (sheet_text s ++ rest) ≡ Ok s
  sheet_read =
      let e = with_read in
      sheet_good (sheet_text s ++ rest) (all_read sheet_lines (omega arith)) (ap is_sheet e ∙ good) ∙ ap Ok e

  -- and the rest
  pub sheet_rest : sheet_end (sheet_text s ++ rest) ≡ rest
  unfolding sheet_end sheet_text
  sheet_rest = after_lines_law sheet_lines sheet_keys (sheet_values s) rest (fit s good) (omega arith)

-- ---- a sheet that was read is written back

value_was : (x : Option ℕ) → is_value x ≡ true → x ≡ Some (value_in x)
value_was None e = absurd (true≢false (sym e))
value_was (Some v) e = refl

-- the sheet's k-th number is that of the k-th line
with_row : (log : List ℕ) (k : ℕ) → k < sheet_lines → get_or (sheet_values (sheet_with log)) k 0 ≡ value_in (sheet_number k log)
unfolding sheet_with
with_row log k h = let z : 0 + k ≡ k = omega arith in value_at sheet_lines 0 k log h ∙ ap (λ (i : ℕ). value_in (sheet_number i log)) z

after_next : (k : ℕ) (log : List ℕ) → after_line (after_lines k log) ≡ after_lines (suc k) log
after_next zero log = refl
after_next (suc k) log = after_next k (after_line log)

module _ (log : List ℕ) (s : Sheet) (e : sheet_of log ≡ Ok s) where
  line_was : (k : ℕ) → k < sheet_lines → line_number (get_or sheet_keys k []) (after_lines k log) ≡ Some (get_or (sheet_values s) k 0)
  unfolding sheet_number
  line_was k h =
      let p = sheet_said log s e in
      value_was (line_number (get_or sheet_keys k []) (after_lines k log)) (good_each sheet_lines k log h p.0)
      ∙ ap Some (sym (with_row log k h))
      ∙ ap (λ (t : Sheet). Some (get_or (sheet_values t) k 0)) p.1

  lines_were : (j k : ℕ) → k + j ≡ sheet_lines → after_lines k log ≡ number_lines (drop k sheet_keys) (drop k (sheet_values s)) ++ after_lines sheet_lines log
  lines_were zero k q =
      let h : k ≡ sheet_lines = omega arith in
      ap (λ (i : ℕ). after_lines i log) h ∙ ap (λ (l : List ℕ). l ++ after_lines sheet_lines log) (sym (lines_end sheet_keys (sheet_values s) k (omega arith)))
  lines_were (suc j) k q =
      let line = number_line (get_or sheet_keys k []) (get_or (sheet_values s) k 0) in
      let more = number_lines (drop (k + 1) sheet_keys) (drop (k + 1) (sheet_values s)) in
      line_back (get_or sheet_keys k []) (after_lines k log) (get_or (sheet_values s) k 0) (line_was k (omega arith))
      ∙ ap (λ (l : List ℕ). line ++ l) (after_next k log ∙ ap (λ (i : ℕ). after_lines i log) (sym (add-one k)) ∙ lines_were j (k + 1) (omega arith))
      ∙ sym (append_assoc line more (after_lines sheet_lines log))
      ∙ ap (λ (l : List ℕ). l ++ after_lines sheet_lines log) (sym (lines_on sheet_keys (sheet_values s) k (omega arith) (omega arith)))

  -- byte for byte
  pub sheet_back : log ≡ sheet_text s ++ sheet_end log
  unfolding sheet_text sheet_end
  sheet_back = lines_were sheet_lines 0 refl
