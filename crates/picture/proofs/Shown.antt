-- An answer is drawn line by line from its numbers: a line `key=number` as the box writes it is read as that key and that number, and its picture is what
-- `line_drawn` says of them, whatever stands behind it. For all eleven keys at once, `jackpot` in nine digits. Assumes nothing.
use mathlib.Core.Path.{◌≡◌, refl, sym, ap, subst, ◌∙◌}
use mathlib.Core.List.{List, [], ◌∷◌, ◌++◌, append-nil, append_assoc}
use mathlib.Core.Bool.{Bool, true, false, not}
use mathlib.Core.Logic.{⊎_elim}
use Prim.Native.Nat.{ℕ, zero, suc, ◌+◌, ◌*◌, ◌≤◌, ◌<◌, ◌^◌}
use native.Mathlib.Omega.{arith}
use lib.ListN.{length, get_or, drop, length-append}
use lib.Dec.{eqb, leb, ltb}
use borrow.Author.Tests.{leb-true, le-leb, lt-ltb, ne_eqb, eqb-false, not-true}
use Rattle.std.specs.Prelude.{Option, Some, None}
use Rattle.laws.specs.Lists.{All}
use Rattle.laws.specs.Tests.{pick, both}
use Rattle.laws.proofs.Tests.{both_true}
use Rattle.laws.proofs.Sums.{le_or_lt}
use Rattle.paper.specs.SheetAndEntries.{between}
use Rattle.text.specs.Bytes.{all_within}
use Rattle.text.specs.Number.{number_of, digits}
use Rattle.text.specs.Line.{value_of, number_line, after_line}
use Rattle.text.proofs.Numbers.{read_digits, number_none}
use Rattle.text.proofs.RoundTrip.{NoLF, no_append, no_within, no_number, line_shape, value_is}
use Rattle.text.proofs.ReadBack.{value_back}
use Rattle.writing.specs.Nine.{nine_digits, nine_line}
use Rattle.writing.proofs.Nine.{nine_is}
use Rattle.picture.specs.Lines.{line_kinds, keys, mosts, after_zeros, nine_of, number_as, line_written, line_with, line_at, line_from, answer_line}
use Rattle.picture.proofs.Zeros.{nine_read, nine_no_lf, nine_shape}
use Rattle.figures.specs.ScreenRow.{kind_jackpot, counted_of}
use Rattle.picture.specs.Rows.{line_drawn}
use Rattle.picture.specs.Screen as screen
use Rattle.picture.specs.Screen.{line_most, said_of, shown_of, step_of, close_of, picture_from}
use Rattle.picture.specs.declared.Line.{Line}

-- ---- the keys: letters, at most nine, no two alike in their first two

-- its letters, and at most nine
abbrev Word : List ℕ → Type 0
Word key = (all_within 97 122 key ≡ true) × (length key ≤ 9)

all_words : All Word keys
all_words = ((refl, omega arith), ((refl, omega arith), ((refl, omega arith), ((refl, omega arith), ((refl, omega arith), ((refl, omega arith), ((refl, omega arith), ((refl, omega arith), ((refl, omega arith), ((refl, omega arith), ((refl, omega arith), tt)))))))))))

word_at : (xs : List (List ℕ)) (k : ℕ) → All Word xs → Word (get_or xs k [])
word_at [] k a = (refl, omega arith)
word_at (x ∷ xs) zero a = a.0
word_at (x ∷ xs) (suc k) a = word_at xs k a.1

abbrev key : ℕ → List ℕ
key k = get_or keys k []

word : (k : ℕ) → Word (key k)
word k = word_at keys k all_words

letter : (c : ℕ) (b : List ℕ) → all_within 97 122 (c ∷ b) ≡ true → 97 ≤ c
letter c b q = leb-true 97 c (both_true (leb 97 c) (leb c 122) (both_true (between 97 122 c) (all_within 97 122 b) q).0).0

-- two that are equal in front of their `=` are equal
same_key : (a b x y : List ℕ) → all_within 97 122 a ≡ true → all_within 97 122 b ≡ true → a ++ (61 ∷ x) ≡ b ++ (61 ∷ y) → a ≡ b
same_key [] [] x y p q e = refl
same_key [] (c ∷ b) x y p q e = absurd (omega (arith, letter c b q, ap (λ (l : List ℕ). get_or l 0 0) e))
same_key (c ∷ a) [] x y p q e = absurd (omega (arith, letter c a p, ap (λ (l : List ℕ). get_or l 0 0) e))
same_key (c ∷ a) (d ∷ b) x y p q e =
    let h : c ≡ d = ap (λ (l : List ℕ). get_or l 0 0) e in
    let t : a ≡ b = same_key a b x y (both_true (between 97 122 c) (all_within 97 122 a) p).1 (both_true (between 97 122 d) (all_within 97 122 b) q).1 (ap (drop 1) e) in
    rw (h, t)

-- the first two letters as a number
abbrev tag : List ℕ → ℕ
tag w = get_or w 0 0 * 256 + get_or w 1 0

abbrev tags : List (List ℕ) → List ℕ
tags [] = []
tags (x ∷ xs) = tag x ∷ tags xs

tag_at : (xs : List (List ℕ)) (k : ℕ) → get_or (tags xs) k 0 ≡ tag (get_or xs k [])
tag_at [] k = refl
tag_at (x ∷ xs) zero = refl
tag_at (x ∷ xs) (suc k) = tag_at xs k

-- a number is in none of the places of a list; no two places of a list have the same
abbrev absent : ℕ → List ℕ → Bool
absent x [] = true
absent x (y ∷ ys) = both (not (eqb x y)) (absent x ys)

abbrev unlike : List ℕ → Bool
unlike [] = true
unlike (x ∷ xs) = both (absent x xs) (unlike xs)

absent_at : (x : ℕ) (ys : List ℕ) (k : ℕ) → absent x ys ≡ true → k < length ys → x ≡ get_or ys k 0 → ⊥
absent_at x [] k a l e = omega arith
absent_at x (y ∷ ys) zero a l e = eqb-false x y (not-true (eqb x y) (both_true (not (eqb x y)) (absent x ys) a).0) e
absent_at x (y ∷ ys) (suc k) a l e = absent_at x ys k (both_true (not (eqb x y)) (absent x ys) a).1 (omega arith) e

unlike_at : (xs : List ℕ) (i k : ℕ) → unlike xs ≡ true → i < k → k < length xs → get_or xs i 0 ≡ get_or xs k 0 → ⊥
unlike_at [] i k u h l e = omega arith
unlike_at (x ∷ xs) i zero u h l e = omega arith
unlike_at (x ∷ xs) zero (suc k) u h l e = absent_at x xs k (both_true (absent x xs) (unlike xs) u).0 (omega arith) e
unlike_at (x ∷ xs) (suc i) (suc k) u h l e = unlike_at xs i k (both_true (absent x xs) (unlike xs) u).1 (omega arith) (omega arith) e

keys_unlike : (i k : ℕ) → i < k → k < line_kinds → key i ≡ key k → ⊥
keys_unlike i k h l e = unlike_at (tags keys) i k refl h l (tag_at keys i ∙ ap tag e ∙ sym (tag_at keys k))

-- ---- which line it is

-- no bytes are no number, behind whatever key
none_as : (k : ℕ) (bs : List ℕ) → length bs ≡ 0 → number_as k bs ≡ None
unfolding number_as nine_of
none_as k bs e = go (eqb k kind_jackpot)
  where
    go : (t : Bool) → pick t (pick (eqb (length bs) 9) (number_of (after_zeros bs)) None) (number_of bs) ≡ None
    go true = rw e
    go false = number_none bs e

-- the number as it is written behind the key: in nine digits or in as many as it has
abbrev numeral : ℕ → ℕ → List ℕ
numeral k v = pick (eqb k kind_jackpot) (nine_digits v) (digits v)

line_form : (k v : ℕ) (rest : List ℕ) → line_written k v ++ rest ≡ key k ++ (61 ∷ numeral k v) ++ (10 ∷ rest)
unfolding line_written
line_form k v rest = go (eqb k kind_jackpot)
  where
    go : (t : Bool) → pick t (nine_line (key k) v) (number_line (key k) v) ++ rest ≡ key k ++ (61 ∷ pick t (nine_digits v) (digits v)) ++ (10 ∷ rest)
    go true = nine_shape (key k) rest v
    go false = line_shape (key k) rest v

module _ (k v : ℕ) (l : k < line_kinds) (q : v < 10 ^ 9) where
  abbrev written : List ℕ
  written = line_written k v

  form : written ≡ key k ++ (61 ∷ numeral k v) ++ (10 ∷ [])
  form = sym (append-nil written) ∙ line_form k v []

  numeral_read : number_as k (numeral k v) ≡ Some v
  unfolding number_as
  numeral_read = go (eqb k kind_jackpot)
    where
      go : (t : Bool) → pick t (nine_of (pick t (nine_digits v) (digits v))) (number_of (pick t (nine_digits v) (digits v))) ≡ Some v
      go true = nine_read v q
      go false = read_digits v q

  numeral_plain : NoLF (numeral k v) × (length (numeral k v) ≤ 9)
  numeral_plain = go (eqb k kind_jackpot)
    where
      go : (t : Bool) → NoLF (pick t (nine_digits v) (digits v)) × (length (pick t (nine_digits v) (digits v)) ≤ 9)
      go true = (nine_no_lf v q, omega (arith, nine_is v))
      go false = no_number (digits v) v (read_digits v q)

  here_value : value_of (key k) written ≡ numeral k v
  here_value =
      let w = word k in
      rw form (value_is (key k) (numeral k v) [] (no_within 97 122 (key k) (omega arith) w.0) numeral_plain.0 (omega (arith, w.1, numeral_plain.1)))

  -- as a line of its own kind it is its number
  here : v ≤ get_or mosts k 0 → line_at k written ≡ record { kind = k; value = v }
  unfolding line_at
  here h = rw (here_value, numeral_read, le-leb v (get_or mosts k 0) h)

  -- it is no line of a kind before: there it has no value
  other : (j : ℕ) → j < k → (line_at j written).kind ≡ line_kinds
  unfolding line_at
  other j h =
      ⊎_elim (λ (z : length (value_of (key j) written) ≤ 0). ap (λ (x : Option ℕ). (line_with j (get_or mosts j 0) x).kind) (none_as j (value_of (key j) written) (omega arith)))
      (λ (z : 0 < length (value_of (key j) written)).
      let x : List ℕ = value_of (key j) written in
      let shapes : key k ++ (61 ∷ numeral k v) ++ (10 ∷ []) ≡ key j ++ (61 ∷ x) ++ (10 ∷ after_line written) = sym form ∙ value_back (key j) written z in
      let one : key k ++ (61 ∷ (numeral k v ++ (10 ∷ []))) ≡ key j ++ (61 ∷ (x ++ (10 ∷ after_line written))) =
      sym (append_assoc (key k) (61 ∷ numeral k v) (10 ∷ [])) ∙ shapes ∙ append_assoc (key j) (61 ∷ x) (10 ∷ after_line written) in
      absurd (keys_unlike j k h l (sym (same_key (key k) (key j) (numeral k v ++ (10 ∷ [])) (x ++ (10 ∷ after_line written)) (word k).0 (word j).0 one))))
      (le_or_lt (length (value_of (key j) written)) 0)

found : (m d j : ℕ) (bs : List ℕ) (l : Line) → d < m → ((i : ℕ) → i < d → (line_at (j + i) bs).kind ≡ line_kinds) → line_at (j + d) bs ≡ l → l.kind < line_kinds → line_from m j bs ≡ l
found zero d j bs l h n e f = absurd (omega arith)
found (suc m) zero j bs l h n e f =
    let z : j + 0 ≡ j = omega arith in
    let at : line_at j bs ≡ l = rw z at e in
    rw (at, lt-ltb l.kind line_kinds f)
found (suc m) (suc d) j bs l h n e f =
    let z : j + 0 ≡ j = omega arith in
    let none : (line_at j bs).kind ≡ line_kinds = rw z at (n 0 (omega arith)) in
    let on : (i : ℕ) → j + suc i ≡ j + 1 + i = λ i. omega arith in
    rw none (found m d (j + 1) bs l (omega arith) (λ i p. subst (λ (x : ℕ). (line_at x bs).kind ≡ line_kinds) (on i) (n (suc i) (omega arith))) (subst (λ (x : ℕ). line_at x bs ≡ l) (on d) e) f)

-- a line as the box writes it says its key and its number
pub line_said : (k v : ℕ) → k < line_kinds → v < 10 ^ 9 → v ≤ get_or mosts k 0 → answer_line (line_written k v) ≡ record { kind = k; value = v }
unfolding answer_line
line_said k v l q h =
    let bs : List ℕ = line_written k v in
    let z : (i : ℕ) → i ≡ 0 + i = λ i. omega arith in
    found line_kinds k 0 bs (record { kind = k; value = v }) l (λ i p. subst (λ (x : ℕ). (line_at x bs).kind ≡ line_kinds) (z i) (other k v l q i p))
    (subst (λ (x : ℕ). line_at x bs ≡ record { kind = k; value = v }) (z k) (here k v l q h)) l

-- ---- and how it is drawn

-- the bytes of a line are kept until its LF comes
drawn : (colour : Bool) (xs line rest : List ℕ) (last pots : ℕ) → NoLF xs → length line + length xs ≤ line_most
    → picture_from colour (record { line = line; long = false; last = last; pots = pots }) (xs ++ (10 ∷ rest))
    ≡ shown_of colour last false pots (said_of false ((line ++ xs) ++ (10 ∷ []))) (line ++ xs)
    ++ picture_from colour (screen.after_line pots (said_of false ((line ++ xs) ++ (10 ∷ [])))) rest
unfolding step_of
drawn colour [] line rest last pots n h = rw (append-nil line)
drawn colour (b ∷ xs) line rest last pots n h =
    let e : (line ++ (b ∷ [])) ++ xs ≡ line ++ (b ∷ xs) = append_assoc line (b ∷ []) xs in
    let short : ltb (length line) line_most ≡ true = lt-ltb (length line) line_most (omega arith) in
    let r = drawn colour xs (line ++ (b ∷ [])) rest last pots n.1 (omega (arith, length-append line (b ∷ []))) in
    rw (ne_eqb b 10 n.0, short) (rw e at r)

-- the picture of a line as the box writes it is what `line_drawn` says of its number; what stands behind it is drawn by itself
pub line_shown : (colour : Bool) (k v last pots : ℕ) (rest : List ℕ) → k < line_kinds → v < 10 ^ 9 → v ≤ get_or mosts k 0
    → picture_from colour (record { line = []; long = false; last = last; pots = pots }) (line_written k v ++ rest)
    ≡ line_drawn colour last pots k v ++ picture_from colour (screen.after_line pots (record { kind = k; value = v })) rest
unfolding said_of shown_of
line_shown colour k v last pots rest l q h =
    let w = word k in
    let d = numeral_plain k v l q in
    let xs : List ℕ = key k ++ (61 ∷ numeral k v) in
    let n : NoLF xs = no_append (key k) (61 ∷ numeral k v) (no_within 97 122 (key k) (omega arith) w.0) (λ e. omega arith, d.0) in
    let shape : line_written k v ++ rest ≡ xs ++ (10 ∷ rest) = line_form k v rest in
    let whole : xs ++ (10 ∷ []) ≡ line_written k v = sym (form k v l q) in
    let says : answer_line (xs ++ (10 ∷ [])) ≡ record { kind = k; value = v } = ap answer_line whole ∙ line_said k v l q h in
    let r = drawn colour xs [] rest last pots n (omega (arith, w.1, d.1, length-append (key k) (61 ∷ numeral k v))) in
    rw shape (rw (says, lt-ltb k line_kinds l) at r)

-- ---- answers whole

-- an answer line that the box may write
abbrev pub Written : Line → Type 0
Written l = (l.kind < line_kinds) × (l.value < 10 ^ 9) × (l.value ≤ get_or mosts l.kind 0)

-- answer lines one behind another, as bytes, and as they are drawn: each from its number, the kind of the line before and the count of pots in a row
abbrev pub line_bytes : List Line → List ℕ
line_bytes [] = []
line_bytes (l ∷ ls) = line_written l.kind l.value ++ line_bytes ls

abbrev pub lines_drawn : Bool → ℕ → ℕ → List Line → List ℕ
lines_drawn colour last pots [] = close_of (record { line = []; long = false; last = last; pots = pots })
lines_drawn colour last pots (l ∷ ls) = line_drawn colour last pots l.kind l.value ++ lines_drawn colour l.kind (counted_of pots l.kind) ls

-- the picture of any answers is drawn from their numbers
pub answers_shown : (colour : Bool) (last pots : ℕ) (ls : List Line) → All Written ls
    → picture_from colour (record { line = []; long = false; last = last; pots = pots }) (line_bytes ls) ≡ lines_drawn colour last pots ls
answers_shown colour last pots [] a = refl
answers_shown colour last pots (l ∷ ls) a =
    line_shown colour l.kind l.value last pots (line_bytes ls) a.0.0 a.0.1 a.0.2
    ∙ ap (λ (r : List ℕ). line_drawn colour last pots l.kind l.value ++ r) (answers_shown colour l.kind (counted_of pots l.kind) ls a.1)
