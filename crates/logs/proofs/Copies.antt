-- Laws of one block's copy, by what reading and writing answered. Assumes nothing.
use mathlib.Core.Path.{◌≡◌, refl, sym, ap, subst, ◌∙◌}
use mathlib.Core.List.{List, [], ◌∷◌, ◌++◌}
use mathlib.Core.Bool.{Bool, true, false}
use Prim.Native.Nat.{ℕ, ◌+◌, ◌≤◌, ◌<◌}
use native.Mathlib.Omega.{arith}
use lib.ListN.{length, length-append}
use lib.Dec.{leb}
use borrow.Author.Tests.{leb-true, eq-eqb, ne_eqb, le-leb, lt-leb}
use Rattle.std.specs.Prelude.{Result, Ok, Err}
use Rattle.paper.specs.declared.refusal.Refusal.TheVariants.{OutOfRange, NoRoom}
use Rattle.paper.specs.declared.refusal.Refusal.{Refusal}
use Rattle.laws.specs.Tests.{pick}
use Rattle.paper.specs.declared.Sheet.{Sheet}
use Rattle.paper.specs.declared.Entry.{Entry}
use Rattle.text.specs.Number.{digits}
use Rattle.text.specs.Line.{number_line}
use Rattle.blocks.specs.Block.{block_of}
use Rattle.blocks.specs.Entry.{parsed_of}
use Rattle.writing.specs.AnswerSheet.{Wrote, fits, sheet_after}
use Rattle.text.proofs.Lines.{line_count}
use Rattle.text.proofs.Numbers.{count_most}
use Rattle.blocks.specs.declared.Block.{Block}
use Rattle.blocks.specs.declared.Block.TheVariants.{Raw}
use Rattle.logs.specs.declared.copy.Copied.{Copied}
use Rattle.logs.specs.LogText.{entry_text, is_entry, put_of, put_after}
use Rattle.logs.specs.FairCopy.{entry_copy, form_copy, block_copy, note_text, note_most, note_in, copied_as, left_as, entry_copied, form_copied, copied_of}

-- no bytes are written anywhere
after_none : (buffer : List ℕ) → buffer ≡ sheet_after [] buffer
after_none buffer = go (leb 0 (length buffer))
  where
    go : (b : Bool) → buffer ≡ pick b buffer buffer
    go true = refl
    go false = refl

put_copy : (good : Bool) (bs buffer : List ℕ) → put_after good bs buffer ≡ sheet_after (pick good bs []) buffer
put_copy true bs buffer = refl
put_copy false bs buffer = after_none buffer

-- what was written lies in the buffer
pub copied_within : (good : Bool) (bs buffer : List ℕ) → (copied_as (put_of good bs buffer)).written ≤ length buffer
copied_within false bs buffer = omega arith
copied_within true bs buffer = go (fits bs buffer) refl
  where
    go : (b : Bool) → fits bs buffer ≡ b → (copied_as (pick b (Ok (length bs)) (Err NoRoom))).written ≤ length buffer
    go true e = leb-true (length bs) (length buffer) e
    go false e = omega arith

-- ---- the numbers of a block: an entry, or none

module _ (sheet : Sheet) (n : ℕ) (p : Result Entry Refusal) (buffer : List ℕ) where
  pub entry_none : {r : Copied} {why : Refusal} → p ≡ Err why → r ≡ left_as 2 → (r ≡ entry_copied sheet n p buffer) × (buffer ≡ sheet_after (entry_copy sheet n p) buffer)
  entry_none {r} q f = (f ∙ sym (ap (λ (x : Result Entry Refusal). entry_copied sheet n x buffer) q), after_none buffer ∙ ap (λ (x : Result Entry Refusal). sheet_after (entry_copy sheet n x) buffer) (sym q))

  pub entry_put : {e : Entry} {w : Result ℕ Refusal} {r : Copied} {new : List ℕ} → p ≡ Ok e → w ≡ put_of (is_entry sheet n e) (entry_text n e) buffer
      → new ≡ put_after (is_entry sheet n e) (entry_text n e) buffer → r ≡ copied_as w
      → (r ≡ entry_copied sheet n p buffer) × (new ≡ sheet_after (entry_copy sheet n p) buffer)
  entry_put {e} {w} {r} {new} q f g h = (
    h ∙ ap copied_as f ∙ ap (λ (x : Result Entry Refusal). entry_copied sheet n x buffer) (sym q),
    g ∙ put_copy (is_entry sheet n e) (entry_text n e) buffer ∙ ap (λ (x : Result Entry Refusal). sheet_after (entry_copy sheet n x) buffer) (sym q),
  )

  pub entry_within : (entry_copied sheet n p buffer).written ≤ length buffer
  entry_within = go p
    where
      go : (x : Result Entry Refusal) → (entry_copied sheet n x buffer).written ≤ length buffer
      go (Ok e) = copied_within (is_entry sheet n e) (entry_text n e) buffer
      go (Err why) = omega arith

-- ---- a block: five numbers, or malformed

module _ (sheet : Sheet) (log buffer : List ℕ) where
  abbrev Said : Copied → List ℕ → Type 0
  Said r new = (r ≡ copied_of sheet log buffer) × ((new ≡ sheet_after (block_copy sheet log) buffer) × (r.written ≤ length buffer))

  pub raw_copied : {blk : Block} {p : Result Entry Refusal} {r : Copied} {new : List ℕ} {n k s a b : ℕ} → blk ≡ block_of log → blk ≡ Raw n k s a b → p ≡ parsed_of k s a b
      → r ≡ entry_copied sheet n p buffer → new ≡ sheet_after (entry_copy sheet n p) buffer → Said r new
  unfolding copied_of block_copy
  raw_copied {blk} {p} {r} {new} {n} {k} {s} {a} {b} e f g h i =
      let q : Raw n k s a b ≡ block_of log = sym f ∙ e in (
        h ∙ ap (λ (x : Result Entry Refusal). entry_copied sheet n x buffer) g ∙ ap (λ (x : Block). form_copied sheet x buffer) q,
        (
          i ∙ ap (λ (x : Result Entry Refusal). sheet_after (entry_copy sheet n x) buffer) g ∙ ap (λ (x : Block). sheet_after (form_copy sheet x) buffer) q,
          omega (arith, ap (λ (c : Copied). c.written) h, entry_within sheet n p buffer),
        ),
      )

  pub bad_copied : {blk : Block} {r : Copied} → blk ≡ block_of log → form_copied sheet blk buffer ≡ left_as 1 → form_copy sheet blk ≡ [] → r ≡ left_as 1 → Said r buffer
  unfolding copied_of block_copy
  bad_copied {blk} {r} e f g h = (
    h ∙ sym f ∙ ap (λ (x : Block). form_copied sheet x buffer) e,
    (
      after_none buffer ∙ ap (λ (l : List ℕ). sheet_after l buffer) (sym g ∙ ap (form_copy sheet) e),
      omega (arith, ap (λ (c : Copied). c.written) h),
    ),
  )

-- ---- the line about a block that is left out

abbrev code_line : ℕ → List ℕ
code_line code = number_line (32 ∷ 99 ∷ 111 ∷ 100 ∷ 101 ∷ []) code

pub note_parts : (number code : ℕ) → length (note_text number code) ≡ 6 + length (digits number) + length (code_line code)
unfolding note_text
note_parts number code =
    omega (arith, length-append ((98 ∷ 108 ∷ 111 ∷ 99 ∷ 107 ∷ 61 ∷ []) ++ digits number) (code_line code), length-append (98 ∷ 108 ∷ 111 ∷ 99 ∷ 107 ∷ 61 ∷ []) (digits number))

pub note_most_law : (number code : ℕ) → length (note_text number code) ≤ note_most
note_most_law number code =
    omega (arith, note_parts number code, line_count (32 ∷ 99 ∷ 111 ∷ 100 ∷ 101 ∷ []) code, count_most number, count_most code)

module _ (number code : ℕ) (buffer : List ℕ) where
  nothing_said : note_in number code (length buffer) ≡ [] → Wrote (note_in number code (length buffer)) buffer buffer 0 × (0 ≤ length buffer)
  nothing_said e = (subst (λ (l : List ℕ). Wrote l buffer buffer 0) (sym e) (record { count = refl; sheet = refl }), omega arith)

  pub note_none : code ≡ 0 → Wrote (note_in number code (length buffer)) buffer buffer 0 × (0 ≤ length buffer)
  note_none e = nothing_said (ap (λ (t : Bool). pick t [] (pick (leb note_most (length buffer)) (note_text number code) [])) (eq-eqb code 0 e))

  some_note : (code ≡ 0 → ⊥) → note_in number code (length buffer) ≡ pick (leb note_most (length buffer)) (note_text number code) []
  some_note n = ap (λ (t : Bool). pick t [] (pick (leb note_most (length buffer)) (note_text number code) [])) (ne_eqb code 0 n)

  pub note_short : (code ≡ 0 → ⊥) → length buffer < note_most → Wrote (note_in number code (length buffer)) buffer buffer 0 × (0 ≤ length buffer)
  note_short n h = nothing_said (some_note n ∙ ap (λ (t : Bool). pick t (note_text number code) []) (lt-leb note_most (length buffer) h))

  pub note_done : {c r : ℕ} {new : List ℕ} → (code ≡ 0 → ⊥) → note_most ≤ length buffer → c ≡ code → Wrote (note_text number c) buffer new r
      → Wrote (note_in number code (length buffer)) buffer new r × (r ≤ length buffer)
  note_done {c} {r} {new} n h e w =
      let v : Wrote (note_text number code) buffer new r = subst (λ (k : ℕ). Wrote (note_text number k) buffer new r) e w in (
        subst (λ (l : List ℕ). Wrote l buffer new r) (sym (some_note n ∙ ap (λ (t : Bool). pick t (note_text number code) []) (le-leb note_most (length buffer) h))) v,
        omega (arith, v.count, note_most_law number code),
      )
