-- The code's table of sheet lines is the paper's: at each line, by a test that antt computes. Assumes nothing.
use mathlib.Core.Path.{◌≡◌, refl, sym, ap, ◌∙◌}
use mathlib.Core.List.{List, [], ◌∷◌}
use mathlib.Core.Bool.{Bool, true}
use Prim.Native.Nat.{ℕ, ◌+◌, ◌-◌, ◌≤◌, ◌<◌}
use native.Mathlib.Omega.{arith}
use lib.ListN.{length, get_or, take}
use lib.Seq.{length-take-le}
use lib.Dec.{leb}
use borrow.Author.Tests.{leb-true}
use Rattle.std.specs.Prelude.{Option}
use Rattle.laws.specs.Tests.{both}
use Rattle.laws.proofs.Tests.{both_true}
use Rattle.laws.proofs.Rules.{all_below, below_all}
use Rattle.text.specs.Line.{line_number, number_line, after_lines}
use Rattle.text.specs.Number.{digits}
use Rattle.laws.specs.Listing.{same_list}
use Rattle.text.specs.TableSheet.{sheet_lines, sheet_keys, sheet_number}
use Rattle.text.specs.declared.sheet.Key.{Key}
use Rattle.laws.proofs.Members.{same_list_law}
use Rattle.text.proofs.Lines.{line_count}
use Rattle.text.proofs.Numbers.{count_most}

abbrev line : List ℕ → ℕ → Key
line bytes letters = record { bytes = bytes; letters = letters }

abbrev pub table : List Key
table =
    line (115 ∷ 101 ∷ 97 ∷ 116 ∷ 115 ∷ []) 5
    ∷ line (115 ∷ 109 ∷ 97 ∷ 108 ∷ 108 ∷ []) 5
    ∷ line (98 ∷ 105 ∷ 103 ∷ 32 ∷ 32 ∷ []) 3
    ∷ line (114 ∷ 97 ∷ 116 ∷ 101 ∷ 32 ∷ []) 4
    ∷ line (99 ∷ 97 ∷ 112 ∷ 32 ∷ 32 ∷ []) 3
    ∷ line (115 ∷ 116 ∷ 101 ∷ 112 ∷ 32 ∷ []) 4
    ∷ line (103 ∷ 97 ∷ 109 ∷ 101 ∷ 32 ∷ []) 4
    ∷ line (100 ∷ 101 ∷ 99 ∷ 107 ∷ 32 ∷ []) 4
    ∷ line (100 ∷ 114 ∷ 111 ∷ 112 ∷ 32 ∷ []) 4
    ∷ []

abbrev pub at : ℕ → Key
at k = get_or table k (line [] 0)

abbrev right : ℕ → Bool
right k = both (leb (at k).letters (length (at k).bytes)) (same_list (take ((at k).letters - 0) (at k).bytes) (get_or sheet_keys k []))

all_right : all_below sheet_lines right ≡ true
all_right = refl

-- the key fits its place, and its letters are the paper's key
pub row : (k : ℕ) → k < sheet_lines → ((at k).letters ≤ length (at k).bytes) × (take ((at k).letters - 0) (at k).bytes ≡ get_or sheet_keys k [])
row k h =
    let p = both_true _ _ (below_all sheet_lines right all_right k h) in
    (leb-true _ _ p.0, same_list_law _ _ p.1)

-- what the reading of a line answered
pub number_said : (k : ℕ) (log : List ℕ) {rest : List ℕ} {x : Option ℕ} → k < sheet_lines → rest ≡ after_lines k log
    → x ≡ line_number (take ((at k).letters - 0) (at k).bytes) rest → x ≡ sheet_number k log
unfolding sheet_number
number_said k log h e f = f ∙ rw (e, (row k h).1)

-- ---- writing by the table: how many letters a key has, and how long its line is

abbrev few : ℕ → Bool
few k = leb (at k).letters 5

all_few : all_below sheet_lines few ≡ true
all_few = refl

module _ (k : ℕ) (h : k < sheet_lines) where
  letters_are : (at k).letters ≡ length (get_or sheet_keys k [])
  letters_are =
      let p = row k h in
      let e : (at k).letters - 0 ≡ (at k).letters = omega arith in
      sym (length-take-le (at k).letters (at k).bytes p.0) ∙ ap (λ (i : ℕ). length (take i (at k).bytes)) (sym e) ∙ ap length p.1

  pub few_letters : (at k).letters ≤ 5
  few_letters = leb-true _ _ (below_all sheet_lines few all_few k h)

  pub line_long : (n : ℕ) {d r : ℕ} → d ≡ length (digits n) → r ≡ (at k).letters + d + 2 → (r ≡ length (number_line (get_or sheet_keys k []) n)) × (r ≤ 16)
  line_long n {d} {r} e q =
      let l = letters_are in
      (omega (arith, line_count (get_or sheet_keys k []) n), omega (arith, few_letters, count_most n))
