-- Request No. 1, the entry: "Reading what was written gives the same entry; a block the reader accepts is written back byte for byte." Once for all
-- kinds, by their table, for any bytes behind the entry. Assumes nothing.
use mathlib.Core.Path.{◌≡◌, refl, sym, ap, ◌∙◌}
use mathlib.Core.List.{List, [], ◌∷◌, ◌++◌, append_assoc}
use mathlib.Core.Bool.{Bool, true, false}
use Prim.Native.Nat.{ℕ, suc, ◌≤◌, ◌<◌}
use native.Mathlib.Omega.{arith}
use lib.ListN.{length, get_or, length-append}
use lib.Dec.{leb, eqb}
use borrow.Author.Tests.{leb-true, eqb-true}
use Rattle.std.specs.Prelude.{Option, Some, None, Ok}
use Rattle.laws.specs.Tests.{pick, both}
use Rattle.laws.proofs.Tests.{both_true}
use Rattle.laws.proofs.Rules.{all_below, below_all}
use Rattle.paper.specs.Paper.{is_sheet, in_range}
use Rattle.paper.specs.SheetAndEntries.{numbers_fit, is_count, kind_names, numbers_of, made}
use Rattle.paper.specs.declared.Sheet.{Sheet}
use Rattle.paper.specs.declared.Numbers.{Numbers}
use Rattle.paper.specs.declared.Entry.{Entry}
use Rattle.paper.proofs.Codes.{between_in}
use Rattle.text.specs.Line.{after_line, line_number, number_line, value_of, after_lines}
use Rattle.blocks.specs.Block.{rest_of, place_in, all_letters, is_word, kind_of, line_kind, block_from, block_of}
use Rattle.laws.specs.Listing.{same_list}
use Rattle.blocks.specs.Entry.{parsed_of}
use Rattle.blocks.specs.declared.Block.TheVariants.{Raw, Nothing}
use Rattle.laws.proofs.Members.{same_list_law}
use Rattle.blocks.proofs.Blocks.{block_five}
use Rattle.text.proofs.Lines.{line_count}
use Rattle.blocks.proofs.Bounds.{numbers_bounded}
use Rattle.blocks.proofs.Entries.{numbers_back, entry_back, read_is, kind_known}
use Rattle.text.proofs.RoundTrip.{NoLF, no_append, value_is, after_is, read_line, read_rest}
use Rattle.text.proofs.ReadBack.{value_back, line_back}
use Rattle.logs.specs.LogText.{word_line, block_text, entry_text, is_entry, SmallEntry}
use Rattle.logs.proofs.SheetText.{letters_no}

-- ---- the numbers of an entry in range have at most nine digits

pub fits_small : (sheet : Sheet) (n : ℕ) (x : Numbers) → is_sheet sheet ≡ true → is_count n ≡ true → numbers_fit sheet x ≡ true → SmallEntry n x
fits_small sheet n x s c f =
    let m = numbers_bounded sheet x s f in
    let count : n ≤ 1000000 = (between_in 1 1000000 n c).1 in
    record { kind = m.kind; count = omega arith; seat = omega (arith, m.seat); a = omega (arith, m.a); b = omega (arith, m.b) }

pub entry_small : (sheet : Sheet) (n : ℕ) (e : Entry) → is_entry sheet n e ≡ true → SmallEntry n (numbers_of e)
unfolding is_entry in_range
entry_small sheet n e h =
    let p = both_true (is_sheet sheet) (both (is_count n) (numbers_fit sheet (numbers_of e))) h in
    let q = both_true (is_count n) (numbers_fit sheet (numbers_of e)) p.1 in
    fits_small sheet n (numbers_of e) p.0 q.0 q.1

-- ---- the kind's line

-- each word of the table is 1 to 8 small letters, and its place is its own
abbrev name : ℕ → List ℕ
name k = get_or kind_names k []

abbrev right : ℕ → Bool
right k = both (is_word (name k)) (eqb (place_in kind_names (name k)) k)

all_right : all_below 12 right ≡ true
all_right = refl

word_parts : (w : List ℕ) → is_word w ≡ true → (1 ≤ length w) × (length w ≤ 8) × (all_letters w ≡ true)
word_parts w e =
    let least = leb 1 (length w) in
    let most = leb (length w) 8 in
    let p = both_true (both least most) (all_letters w) e in
    let q = both_true least most p.0 in
    (leb-true _ _ q.0, leb-true _ _ q.1, p.1)

word_shape : (w rest : List ℕ) → word_line w ++ rest ≡ (100 ∷ 111 ∷ []) ++ (61 ∷ w) ++ (10 ∷ rest)
word_shape w rest = append_assoc (100 ∷ 111 ∷ 61 ∷ w) (10 ∷ []) rest

module _ (k : ℕ) (rest : List ℕ) (h : k < 12) where
  word_is : (is_word (name k) ≡ true) × (place_in kind_names (name k) ≡ k)
  word_is = let p = both_true (is_word (name k)) (eqb (place_in kind_names (name k)) k) (below_all 12 right all_right k h) in (p.0, eqb-true _ _ p.1)

  no_lf : NoLF (name k)
  no_lf = letters_no (name k) (word_parts (name k) word_is.0).2

  no_do : NoLF (100 ∷ 111 ∷ [])
  no_do = letters_no (100 ∷ 111 ∷ []) refl

  pub kind_read : line_kind (word_line (name k) ++ rest) ≡ Some k
  unfolding kind_of
  kind_read =
      let p = word_is in
      let most : length (name k) ≤ 8 = (word_parts (name k) p.0).1 in
      let known : kind_of (name k) ≡ Some k = rw p.0 (ap Some p.1) in
      ap (λ (l : List ℕ). kind_of (value_of (100 ∷ 111 ∷ []) l)) (word_shape (name k) rest)
      ∙ ap kind_of (value_is (100 ∷ 111 ∷ []) (name k) rest no_do no_lf (omega arith))
      ∙ known

  pub kind_rest : after_line (word_line (name k) ++ rest) ≡ rest
  kind_rest =
      ap after_line (word_shape (name k) rest)
      ∙ after_is ((100 ∷ 111 ∷ []) ++ (61 ∷ name k)) rest (no_append (100 ∷ 111 ∷ []) (61 ∷ name k) no_do (λ e. omega arith, no_lf))

-- a word that has a place in a table is the word there
place_is : (ts : List (List ℕ)) (w : List ℕ) → place_in ts w < length ts → get_or ts (place_in ts w) [] ≡ w
place_is [] w h = absurd (omega arith)
place_is (t ∷ ts) w h = go (same_list w t) refl h (λ i. place_is ts w i)
  where
    go : (b : Bool) → same_list w t ≡ b → pick b 0 (suc (place_in ts w)) < suc (length ts) → (place_in ts w < length ts → get_or ts (place_in ts w) [] ≡ w)
        → get_or (t ∷ ts) (pick b 0 (suc (place_in ts w))) [] ≡ w
    go true e i r = sym (same_list_law w t e)
    go false e i r = r (omega arith)

-- the word of a kind that was read
word_was : (w : List ℕ) (k : ℕ) → kind_of w ≡ Some k → k < 12 → (0 < length w) × (name k ≡ w)
unfolding kind_of
word_was w k e h = go (is_word w) refl e
  where
    go : (b : Bool) → is_word w ≡ b → pick b (Some (place_in kind_names w)) None ≡ Some k → (0 < length w) × (name k ≡ w)
    go true p q =
        let m : place_in kind_names w ≡ k = cc in
        let l : 1 ≤ length w = (word_parts w p).0 in
        (omega arith, ap name (sym m) ∙ place_is kind_names w (omega arith))
    go false p q = let z : ◌≡◌ {A = ℕ} 0 1 = cc in absurd (omega arith)

kind_back : (log : List ℕ) (k : ℕ) → line_kind log ≡ Some k → k < 12 → log ≡ word_line (name k) ++ after_line log
kind_back log k e h =
    let w = value_of (100 ∷ 111 ∷ []) log in
    let p = word_was w k e h in
    value_back (100 ∷ 111 ∷ []) log p.0
    ∙ ap (λ (r : List ℕ). (100 ∷ 111 ∷ []) ++ (61 ∷ r) ++ (10 ∷ after_line log)) (sym p.1)
    ∙ sym (word_shape (name k) (after_line log))

-- ---- the five lines

five : (p q r s t u : List ℕ) → p ++ q ++ r ++ s ++ t ++ u ≡ p ++ (q ++ (r ++ (s ++ (t ++ u))))
five p q r s t u =
    append_assoc (p ++ q ++ r ++ s) t u ∙ append_assoc (p ++ q ++ r) s (t ++ u) ∙ append_assoc (p ++ q) r (s ++ (t ++ u)) ∙ append_assoc p q (r ++ (s ++ (t ++ u)))

module _ (n : ℕ) (x : Numbers) (rest : List ℕ) where
  abbrev fifth : List ℕ
  fifth = number_line (98 ∷ []) x.b ++ rest

  abbrev fourth : List ℕ
  fourth = number_line (97 ∷ []) x.a ++ fifth

  abbrev third : List ℕ
  third = number_line (115 ∷ 101 ∷ 97 ∷ 116 ∷ []) x.seat ++ fourth

  abbrev second : List ℕ
  second = word_line (name x.kind) ++ third

  abbrev first : List ℕ
  first = number_line (110 ∷ []) n ++ second

  shape : block_text n x ++ rest ≡ first
  unfolding block_text
  shape = five (number_line (110 ∷ []) n) (word_line (name x.kind)) (number_line (115 ∷ 101 ∷ 97 ∷ 116 ∷ []) x.seat) (number_line (97 ∷ []) x.a) (number_line (98 ∷ []) x.b) rest

-- ---- reading what was written

module _ (n : ℕ) (x : Numbers) (small : SmallEntry n x) (rest : List ℕ) where
  no_n : NoLF (110 ∷ [])
  no_n = letters_no (110 ∷ []) refl

  no_seat : NoLF (115 ∷ 101 ∷ 97 ∷ 116 ∷ [])
  no_seat = letters_no (115 ∷ 101 ∷ 97 ∷ 116 ∷ []) refl

  no_a : NoLF (97 ∷ [])
  no_a = letters_no (97 ∷ []) refl

  no_b : NoLF (98 ∷ [])
  no_b = letters_no (98 ∷ []) refl

  to_second : second n x rest ≡ after_line (first n x rest)
  to_second = sym (read_rest (110 ∷ []) (second n x rest) n no_n small.count)

  to_third : third n x rest ≡ after_line (second n x rest)
  to_third = sym (kind_rest x.kind (third n x rest) small.kind)

  to_fourth : fourth n x rest ≡ after_line (third n x rest)
  to_fourth = sym (read_rest (115 ∷ 101 ∷ 97 ∷ 116 ∷ []) (fourth n x rest) x.seat no_seat small.seat)

  to_fifth : fifth n x rest ≡ after_line (fourth n x rest)
  to_fifth = sym (read_rest (97 ∷ []) (fifth n x rest) x.a no_a small.a)

  to_rest : after_line (fifth n x rest) ≡ rest
  to_rest = read_rest (98 ∷ []) rest x.b no_b small.b

  pub block_read : block_of (block_text n x ++ rest) ≡ Raw n x.kind x.seat x.a x.b
  block_read =
      ap block_of (shape n x rest)
      ∙ sym (block_five (first n x rest) (λ z. omega (arith, some)) (sym (read_line (110 ∷ []) (second n x rest) n no_n small.count (omega arith)))
      to_second (sym (kind_read x.kind (third n x rest) small.kind))
      to_third (sym (read_line (115 ∷ 101 ∷ 97 ∷ 116 ∷ []) (fourth n x rest) x.seat no_seat small.seat (omega arith)))
      to_fourth (sym (read_line (97 ∷ []) (fifth n x rest) x.a no_a small.a (omega arith)))
      to_fifth (sym (read_line (98 ∷ []) rest x.b no_b small.b (omega arith)))
      refl)
    where
      some : 0 < length (first n x rest)
      some = omega (arith, length-append (number_line (110 ∷ []) n) (second n x rest), line_count (110 ∷ []) n)

  pub block_rest : rest_of (block_text n x ++ rest) ≡ rest
  unfolding rest_of
  block_rest =
      ap (after_lines 5) (shape n x rest)
      ∙ ap (after_lines 4) (sym to_second) ∙ ap (after_lines 3) (sym to_third) ∙ ap (after_lines 2) (sym to_fourth) ∙ ap (after_lines 1) (sym to_fifth) ∙ to_rest

-- "Reading what was written gives the same entry", its n, and the rest
module _ (sheet : Sheet) (n : ℕ) (e : Entry) (h : is_entry sheet n e ≡ true) (rest : List ℕ) where
  abbrev x : Numbers
  x = numbers_of e

  pub entry_read : (block_of (entry_text n e ++ rest) ≡ Raw n x.kind x.seat x.a x.b) × (parsed_of x.kind x.seat x.a x.b ≡ Ok e)
  entry_read = (block_read n x (entry_small sheet n e h) rest, entry_back e)

  pub entry_rest : rest_of (entry_text n e ++ rest) ≡ rest
  entry_rest = block_rest n x (entry_small sheet n e h) rest

-- ---- a block that was read is written back

-- none of the five readings of a block is bad
from_five : (p q r s t : Option ℕ) (n k seat a b : ℕ) → block_from p q r s t ≡ Raw n k seat a b
    → (p ≡ Some n) × (q ≡ Some k) × (r ≡ Some seat) × (s ≡ Some a) × (t ≡ Some b)
from_five None q r s t n k seat a b e = let z : ◌≡◌ {A = ℕ} 0 1 = cc in absurd (omega arith)
from_five (Some n') None r s t n k seat a b e = let z : ◌≡◌ {A = ℕ} 0 1 = cc in absurd (omega arith)
from_five (Some n') (Some k') None s t n k seat a b e = let z : ◌≡◌ {A = ℕ} 0 1 = cc in absurd (omega arith)
from_five (Some n') (Some k') (Some seat') None t n k seat a b e = let z : ◌≡◌ {A = ℕ} 0 1 = cc in absurd (omega arith)
from_five (Some n') (Some k') (Some seat') (Some a') None n k seat a b e = let z : ◌≡◌ {A = ℕ} 0 1 = cc in absurd (omega arith)
from_five (Some n') (Some k') (Some seat') (Some a') (Some b') n k seat a b e = (cc, cc, cc, cc, cc)

block_lines : (log : List ℕ) (n k seat a b : ℕ) → block_of log ≡ Raw n k seat a b
    → (line_number (110 ∷ []) log ≡ Some n) × (line_kind (after_line log) ≡ Some k)
    × (line_number (115 ∷ 101 ∷ 97 ∷ 116 ∷ []) (after_line (after_line log)) ≡ Some seat)
    × (line_number (97 ∷ []) (after_line (after_line (after_line log))) ≡ Some a)
    × (line_number (98 ∷ []) (after_line (after_line (after_line (after_line log)))) ≡ Some b)
unfolding block_of
block_lines log n k seat a b e = go (eqb (length log) 0) e
  where
    go : (t : Bool)
        → pick t Nothing
        (block_from (line_number (110 ∷ []) log) (line_kind (after_line log)) (line_number (115 ∷ 101 ∷ 97 ∷ 116 ∷ []) (after_line (after_line log)))
        (line_number (97 ∷ []) (after_line (after_line (after_line log)))) (line_number (98 ∷ []) (after_line (after_line (after_line (after_line log))))))
        ≡ Raw n k seat a b
        → (line_number (110 ∷ []) log ≡ Some n) × (line_kind (after_line log) ≡ Some k)
        × (line_number (115 ∷ 101 ∷ 97 ∷ 116 ∷ []) (after_line (after_line log)) ≡ Some seat)
        × (line_number (97 ∷ []) (after_line (after_line (after_line log))) ≡ Some a)
        × (line_number (98 ∷ []) (after_line (after_line (after_line (after_line log)))) ≡ Some b)
    go true q = let z : ◌≡◌ {A = ℕ} 0 1 = cc in absurd (omega arith)
    go false q =
        from_five (line_number (110 ∷ []) log) (line_kind (after_line log)) (line_number (115 ∷ 101 ∷ 97 ∷ 116 ∷ []) (after_line (after_line log)))
        (line_number (97 ∷ []) (after_line (after_line (after_line log)))) (line_number (98 ∷ []) (after_line (after_line (after_line (after_line log))))) n k seat a b q

pub block_back : (log : List ℕ) (n k seat a b : ℕ) → block_of log ≡ Raw n k seat a b → k < 12 → log ≡ block_text n (made k seat a b) ++ rest_of log
unfolding rest_of
block_back log n k seat a b e h =
    let p = block_lines log n k seat a b e in
    let l1 : List ℕ = after_line log in
    let l2 : List ℕ = after_line l1 in
    let l3 : List ℕ = after_line l2 in
    let l4 : List ℕ = after_line l3 in
    line_back (110 ∷ []) log n p.0
    ∙ ap (λ (l : List ℕ). number_line (110 ∷ []) n ++ l)
    (kind_back l1 k p.1 h
    ∙ ap (λ (l : List ℕ). word_line (name k) ++ l)
    (line_back (115 ∷ 101 ∷ 97 ∷ 116 ∷ []) l2 seat p.2
    ∙ ap (λ (l : List ℕ). number_line (115 ∷ 101 ∷ 97 ∷ 116 ∷ []) seat ++ l)
    (line_back (97 ∷ []) l3 a p.3 ∙ ap (λ (l : List ℕ). number_line (97 ∷ []) a ++ l) (line_back (98 ∷ []) l4 b p.4))))
    ∙ sym (shape n (made k seat a b) (after_line l4))

-- "a block the reader accepts is written back byte for byte"
pub accepted_back : (log : List ℕ) (n k seat a b : ℕ) (e : Entry) → block_of log ≡ Raw n k seat a b → parsed_of k seat a b ≡ Ok e → log ≡ entry_text n e ++ rest_of log
accepted_back log n k seat a b e p q =
    let r = read_is k seat a b e q in
    block_back log n k seat a b p (kind_known k seat a b r.0)
    ∙ ap (λ (x : Numbers). block_text n x ++ rest_of log) (sym (numbers_back k seat a b r.0) ∙ ap numbers_of r.1)
