-- The code's table of kind lines is the paper's: at each kind, by a test that antt computes; and how long a block is. Assumes nothing.
use mathlib.Core.Path.{◌≡◌, refl, sym, ap, ◌∙◌}
use mathlib.Core.List.{List, [], ◌∷◌, ◌++◌}
use mathlib.Core.Bool.{Bool, true}
use Prim.Native.Nat.{ℕ, ◌+◌, ◌-◌, ◌≤◌, ◌<◌}
use native.Mathlib.Omega.{arith}
use lib.ListN.{length, get_or, take, length-append}
use lib.Seq.{length-take-le}
use lib.Dec.{leb}
use borrow.Author.Tests.{leb-true}
use Rattle.laws.specs.Tests.{both}
use Rattle.laws.proofs.Tests.{both_true}
use Rattle.laws.proofs.Rules.{all_below, below_all}
use Rattle.paper.specs.SheetAndEntries.{kind_names}
use Rattle.paper.specs.declared.Numbers.{Numbers}
use Rattle.text.specs.Number.{digits}
use Rattle.text.specs.Line.{number_line}
use Rattle.laws.specs.Listing.{same_list}
use Rattle.laws.proofs.Members.{same_list_law}
use Rattle.text.proofs.Lines.{line_count}
use Rattle.logs.specs.LogText.{word_line, block_text}
use Rattle.logs.specs.declared.entry.KindLine.{KindLine}

abbrev row : List ℕ → ℕ → KindLine
row line bytes = record { line = line; bytes = bytes }

abbrev pub kinds : List KindLine
kinds =
    row (100 ∷ 111 ∷ 61 ∷ 115 ∷ 105 ∷ 116 ∷ 10 ∷ 32 ∷ 32 ∷ 32 ∷ []) 7
    ∷ row (100 ∷ 111 ∷ 61 ∷ 108 ∷ 101 ∷ 97 ∷ 118 ∷ 101 ∷ 10 ∷ 32 ∷ []) 9
    ∷ row (100 ∷ 111 ∷ 61 ∷ 104 ∷ 97 ∷ 110 ∷ 100 ∷ 10 ∷ 32 ∷ 32 ∷ []) 8
    ∷ row (100 ∷ 111 ∷ 61 ∷ 104 ∷ 111 ∷ 108 ∷ 101 ∷ 10 ∷ 32 ∷ 32 ∷ []) 8
    ∷ row (100 ∷ 111 ∷ 61 ∷ 102 ∷ 111 ∷ 108 ∷ 100 ∷ 10 ∷ 32 ∷ 32 ∷ []) 8
    ∷ row (100 ∷ 111 ∷ 61 ∷ 99 ∷ 104 ∷ 101 ∷ 99 ∷ 107 ∷ 10 ∷ 32 ∷ []) 9
    ∷ row (100 ∷ 111 ∷ 61 ∷ 99 ∷ 97 ∷ 108 ∷ 108 ∷ 10 ∷ 32 ∷ 32 ∷ []) 8
    ∷ row (100 ∷ 111 ∷ 61 ∷ 119 ∷ 97 ∷ 103 ∷ 101 ∷ 114 ∷ 10 ∷ 32 ∷ []) 9
    ∷ row (100 ∷ 111 ∷ 61 ∷ 98 ∷ 111 ∷ 97 ∷ 114 ∷ 100 ∷ 10 ∷ 32 ∷ []) 9
    ∷ row (100 ∷ 111 ∷ 61 ∷ 100 ∷ 101 ∷ 97 ∷ 100 ∷ 10 ∷ 32 ∷ 32 ∷ []) 8
    ∷ row (100 ∷ 111 ∷ 61 ∷ 115 ∷ 101 ∷ 116 ∷ 116 ∷ 108 ∷ 101 ∷ 10 ∷ []) 10
    ∷ row (100 ∷ 111 ∷ 61 ∷ 118 ∷ 111 ∷ 105 ∷ 100 ∷ 10 ∷ 32 ∷ 32 ∷ []) 8
    ∷ []

abbrev pub at : ℕ → KindLine
at k = get_or kinds k (row [] 0)

abbrev pub word : ℕ → List ℕ
word k = word_line (get_or kind_names k [])

abbrev right : ℕ → Bool
right k = both (leb (at k).bytes (length (at k).line)) (both (same_list (take ((at k).bytes - 0) (at k).line) (word k)) (leb (at k).bytes 10))

all_right : all_below 12 right ≡ true
all_right = refl

-- the line fits its place and is the paper's, with no byte more
pub kind_row : (k : ℕ) → k < 12 → ((at k).bytes ≤ length (at k).line) × (take ((at k).bytes - 0) (at k).line ≡ word k) × ((at k).bytes ≡ length (word k)) × ((at k).bytes ≤ 10)
kind_row k h =
    let in_place = leb (at k).bytes (length (at k).line) in
    let same = same_list (take ((at k).bytes - 0) (at k).line) (word k) in
    let few = leb (at k).bytes 10 in
    let p = both_true in_place (both same few) (below_all 12 right all_right k h) in
    let q = both_true same few p.1 in
    let fit : (at k).bytes ≤ length (at k).line = leb-true _ _ p.0 in
    let is = same_list_law (take ((at k).bytes - 0) (at k).line) (word k) q.0 in
    let e : (at k).bytes - 0 ≡ (at k).bytes = omega arith in
    (fit, is, sym (length-take-le (at k).bytes (at k).line fit) ∙ ap (λ (i : ℕ). length (take i (at k).line)) (sym e) ∙ ap length is, leb-true _ _ q.1)

module _ (n : ℕ) (x : Numbers) where
  abbrev n_line : List ℕ
  n_line = number_line (110 ∷ []) n

  abbrev seat_line : List ℕ
  seat_line = number_line (115 ∷ 101 ∷ 97 ∷ 116 ∷ []) x.seat

  abbrev a_line : List ℕ
  a_line = number_line (97 ∷ []) x.a

  abbrev b_line : List ℕ
  b_line = number_line (98 ∷ []) x.b

  -- a block is as long as its five lines
  pub block_parts : length (block_text n x) ≡ length n_line + length (word x.kind) + length seat_line + length a_line + length b_line
  unfolding block_text
  block_parts =
      omega (arith, length-append (n_line ++ word x.kind ++ seat_line ++ a_line) b_line, length-append (n_line ++ word x.kind ++ seat_line) a_line, length-append (n_line ++ word x.kind) seat_line, length-append n_line (word x.kind))

  pub block_count : length (block_text n x) ≡ 15 + length (word x.kind) + length (digits n) + length (digits x.seat) + length (digits x.a) + length (digits x.b)
  block_count =
      omega (arith, block_parts, line_count (110 ∷ []) n, line_count (115 ∷ 101 ∷ 97 ∷ 116 ∷ []) x.seat, line_count (97 ∷ []) x.a, line_count (98 ∷ []) x.b)

  pub block_said : {r p q s t : ℕ} → x.kind < 12 → p ≡ length (digits n) → q ≡ length (digits x.seat) → s ≡ length (digits x.a) → t ≡ length (digits x.b)
      → r ≡ 15 + (at x.kind).bytes + p + q + s + t → r ≡ length (block_text n x)
  block_said {r} {p} {q} {s} {t} h e f g i j = omega (arith, block_count, (kind_row x.kind h).2)
