-- Laws of words and blocks: a word's place in a table, a block from its five readings, and that reading it uses up bytes. Assumes nothing.
use mathlib.Core.Path.{◌≡◌, refl, sym, ap, ◌∙◌}
use mathlib.Core.Logic.{⊎_elim}
use mathlib.Core.List.{List, [], ◌∷◌}
use mathlib.Core.Bool.{Bool, true, false}
use Prim.Native.Nat.{ℕ, zero, suc, ◌+◌, ◌-◌, ◌≤◌, ◌<◌}
use native.Mathlib.Numerals.{add-one}
use native.Mathlib.Omega.{arith}
use lib.ListN.{length, get_or, drop, length-drop, drop_of_length-le}
use lib.Seq.{drop-cons, drop-drop}
use borrow.Author.Tests.{eq-eqb, ne_eqb, le-leb, lt-leb}
use Rattle.std.specs.Prelude.{Option, Some, None}
use Rattle.laws.specs.Tests.{pick}
use Rattle.laws.proofs.Sums.{le_or_lt}
use Rattle.laws.specs.Listing.{same_list}
use Rattle.text.specs.Line.{line_len, after_line, after_lines, line_number}
use Rattle.text.proofs.Lines.{after_shorter, after_lines_no_longer}
use Rattle.blocks.specs.declared.Block.{Block}
use Rattle.blocks.specs.declared.Block.TheVariants.{Nothing}
use Rattle.blocks.specs.Block.{rest_of, place_in, kind_names, all_letters, kind_of, line_kind, block_from, block_of}

-- ---- the place of a word in a table, from the k-th row on

pub place_here : (ts : List (List ℕ)) (w : List ℕ) (k : ℕ) → k < length ts → same_list w (get_or ts k []) ≡ true → k + place_in (drop k ts) w ≡ k
place_here ts w k h e = rw (drop-cons ts k [], e) (omega arith)

pub place_on : (ts : List (List ℕ)) (w : List ℕ) (k : ℕ) → k < length ts → same_list w (get_or ts k []) ≡ false
    → k + place_in (drop k ts) w ≡ k + 1 + place_in (drop (k + 1) ts) w
place_on ts w k h e = rw (add-one k, drop-cons ts k [], e) (omega arith)

pub place_within : (ts : List (List ℕ)) (w : List ℕ) → place_in ts w ≤ length ts
place_within [] w = omega arith
place_within (t ∷ ts) w = go (same_list w t) (place_within ts w)
  where
    go : (b : Bool) → place_in ts w ≤ length ts → pick b 0 (suc (place_in ts w)) ≤ suc (length ts)
    go true h = omega arith
    go false h = omega arith

-- ---- which bytes are a kind's word

module _ (w : List ℕ) where
  pub kind_none : length w < 1 → kind_of w ≡ None
  unfolding kind_of
  kind_none h = rw (lt-leb 1 (length w) h)

  pub kind_long : 1 ≤ length w → 8 < length w → kind_of w ≡ None
  unfolding kind_of
  kind_long p h = rw (le-leb 1 (length w) p, lt-leb (length w) 8 h)

  pub kind_letters : 1 ≤ length w → length w ≤ 8 → all_letters w ≡ true → kind_of w ≡ Some (place_in kind_names w)
  unfolding kind_of
  kind_letters p h e = rw (le-leb 1 (length w) p, le-leb (length w) 8 h, e)

  pub kind_other : 1 ≤ length w → length w ≤ 8 → all_letters w ≡ false → kind_of w ≡ None
  unfolding kind_of
  kind_other p h e = rw (le-leb 1 (length w) p, le-leb (length w) 8 h, e)

-- ---- a block from its five readings

pub block_none : (l : List ℕ) → length l ≡ 0 → block_of l ≡ Nothing
unfolding block_of
block_none l e = rw (eq-eqb (length l) 0 e)

pub block_five : (l : List ℕ) {l1 l2 l3 l4 : List ℕ} {n k s a b : Option ℕ} {r : Block} → (length l ≡ 0 → ⊥)
    → n ≡ line_number (110 ∷ []) l
    → l1 ≡ after_line l → k ≡ line_kind l1
    → l2 ≡ after_line l1 → s ≡ line_number (115 ∷ 101 ∷ 97 ∷ 116 ∷ []) l2
    → l3 ≡ after_line l2 → a ≡ line_number (97 ∷ []) l3
    → l4 ≡ after_line l3 → b ≡ line_number (98 ∷ []) l4
    → r ≡ block_from n k s a b → r ≡ block_of l
unfolding block_of
block_five l h en e1 ek e2 es e3 ea e4 eb er =
    er ∙ rw (ne_eqb (length l) 0 h, en, ek, es, ea, eb, e4, e3, e2, e1)

-- ---- reading uses up bytes

-- a log with bytes left is shorter once a block is read, whatever the block
pub rest_shorter : (l : List ℕ) → 0 < length l → length (rest_of l) < length l
unfolding rest_of
rest_shorter l h = omega (arith, after_lines_no_longer 4 (after_line l), after_shorter l h)

-- what is left of a list, by its length
pub drop_own : (n : ℕ) (l : List ℕ) → drop (length l - length (drop n l)) l ≡ drop n l
drop_own n l = ⊎_elim
    (λ h. let e : length l - length (drop n l) ≡ n = omega (arith, length-drop n l) in ap (λ (i : ℕ). drop i l) e)
    (λ h. drop_of_length-le l {i = length l - length (drop n l)} (omega (arith, length-drop n l)) ∙ sym (drop_of_length-le l {i = n} (omega arith)))
    (le_or_lt n (length l))

lines_drop : (k : ℕ) (l : List ℕ) → (n : ℕ) × (after_lines k l ≡ drop n l)
lines_drop zero l = (0, refl)
lines_drop (suc k) l =
    let r = lines_drop k (after_line l) in
    (suc (line_len l) + r.0, r.1 ∙ drop-drop r.0 (suc (line_len l)) l)

-- the rest of a log stands behind the bytes that its first block uses up
pub rest_drop : (l : List ℕ) → drop (length l - length (rest_of l)) l ≡ rest_of l
unfolding rest_of
rest_drop l = let r = lines_drop 5 l in ap (λ (x : List ℕ). drop (length l - length x) l) r.1 ∙ drop_own r.0 l ∙ sym r.1
