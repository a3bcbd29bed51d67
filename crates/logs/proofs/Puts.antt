-- Laws of the two writers: the sheet line by line, and the three answers. Assumes nothing.
use mathlib.Core.Path.{◌≡◌, refl, sym, ap, subst, ◌∙◌}
use mathlib.Core.List.{List, [], ◌++◌, append_assoc, append-nil}
use mathlib.Core.Bool.{Bool, true, false}
use Prim.Native.Nat.{ℕ, ◌+◌, ◌-◌, ◌≤◌, ◌<◌, ◌^◌}
use native.Mathlib.Omega.{arith}
use lib.ListN.{length, get_or, drop, length-append, length-drop}
use borrow.Author.Tests.{le-leb, lt-leb}
use borrow.Rule.Slice.PartMut.{mid_of, put_mid}
use Rattle.std.specs.Prelude.{Ok, Err}
use Rattle.paper.specs.declared.refusal.Refusal.TheVariants.{OutOfRange, NoRoom}
use Rattle.laws.specs.Tests.{both}
use Rattle.paper.specs.Paper.{sheet_values, is_sheet, in_range}
use Rattle.paper.proofs.Sheets.{good_small}
use Rattle.paper.specs.declared.Sheet.{Sheet}
use Rattle.paper.specs.declared.Entry.{Entry}
use Rattle.text.specs.Line.{number_line}
use Rattle.writing.specs.AnswerSheet.{Wrote, fits}
use Rattle.text.specs.TableSheet.{sheet_lines, sheet_keys}
use Rattle.writing.proofs.Sheets.{then}
use Rattle.text.proofs.Parts.{part_is}
use Rattle.logs.specs.LogText.{number_lines, sheet_text, is_entry, put_of, put_after}
use Rattle.logs.proofs.SheetText.{lines_on, lines_end}

-- ---- the sheet: the lines from the k-th on, by the numbers of the sheet
abbrev pub lines_from : List ℕ → ℕ → List ℕ
lines_from vs k = number_lines (drop k sheet_keys) (drop k vs)

abbrev pub line_at : List ℕ → ℕ → List ℕ
line_at vs k = number_line (get_or sheet_keys k []) (get_or vs k 0)

from_on : (vs : List ℕ) (k : ℕ) → length vs ≡ sheet_lines → k < sheet_lines → lines_from vs k ≡ line_at vs k ++ lines_from vs (k + 1)
from_on vs k n h = lines_on sheet_keys vs k h (omega arith)

from_end : (vs : List ℕ) (k : ℕ) → sheet_lines ≤ k → lines_from vs k ≡ []
from_end vs k h = lines_end sheet_keys vs k h

pub values_text : (s : Sheet) {vs : List ℕ} → vs ≡ sheet_values s → lines_from vs 0 ≡ sheet_text s
unfolding sheet_text
values_text s e = ap (number_lines sheet_keys) e

pub values_count : (s : Sheet) {vs : List ℕ} → vs ≡ sheet_values s → length vs ≡ sheet_lines
values_count s e = ap length e

pub values_small : (s : Sheet) {vs : List ℕ} → is_sheet s ≡ true → vs ≡ sheet_values s → (k : ℕ) → k < sheet_lines → get_or vs k 0 < 10 ^ 9
values_small s good e k h = subst (λ (l : List ℕ). get_or l k 0 < 10 ^ 9) (sym e) (good_small s good k)

-- a line more is counted
pub count_on : (vs : List ℕ) (k at : ℕ) {r : ℕ} → length vs ≡ sheet_lines → k < sheet_lines → at + length (lines_from vs k) ≡ length (lines_from vs 0) → r ≡ length (line_at vs k)
    → at + r + length (lines_from vs (k + 1)) ≡ length (lines_from vs 0)
count_on vs k at {r} n h e q = omega (arith, ap length (from_on vs k n h), length-append (line_at vs k) (lines_from vs (k + 1)))

pub count_done : (s : Sheet) (vs : List ℕ) (k at : ℕ) → vs ≡ sheet_values s → sheet_lines ≤ k → at + length (lines_from vs k) ≡ length (lines_from vs 0) → at ≡ length (sheet_text s)
count_done s vs k at e h q = omega (arith, ap length (from_end vs k h), ap length (values_text s e))

-- what was written so far, before the k-th line
pub record Going (vs old now : List ℕ) (k at : ℕ) : Type 0 where
  pub bs : List ℕ
  pub wrote : Wrote bs old now at
  pub all : bs ++ lines_from vs k ≡ lines_from vs 0
  pub room : length (lines_from vs 0) ≤ length old
  pub same : length now ≡ length old

pub going_start : (s : Sheet) (vs old : List ℕ) → vs ≡ sheet_values s → length (sheet_text s) ≤ length old → Going vs old old 0 0
going_start s vs old e h =
    record { bs = []; wrote = record { count = refl; sheet = refl }; all = refl; room = omega (arith, ap length (values_text s e)); same = refl }

module _ {vs old now : List ℕ} {k at : ℕ} (g : Going vs old now k at) where
  module _ (n : length vs ≡ sheet_lines) (h : k < sheet_lines) where
    -- there is room for the next line behind what was written
    pub going_room : at + length (line_at vs k) ≤ length now
    going_room =
        omega (arith, g.wrote.count, g.room, g.same, ap length g.all, length-append g.bs (lines_from vs k), ap length (from_on vs k n h), length-append (line_at vs k) (lines_from vs (k + 1)))

    pub going_part : length (line_at vs k) ≤ length (mid_of at (length now - at) now)
    going_part = omega (arith, ap length (part_is at now), length-drop at now, going_room)

    pub going_turn : {mid after : List ℕ} {r : ℕ} → Wrote (line_at vs k) (mid_of at (length now - at) now) mid r
        → after ≡ put_mid at (length now - at) now mid → length after ≡ length old → Going vs old after (k + 1) (at + r)
    going_turn {mid} {after} {r} w p q = record {
      bs = g.bs ++ line_at vs k;
      wrote = rw p (then g.wrote w);
      all = append_assoc g.bs (line_at vs k) (lines_from vs (k + 1)) ∙ ap (λ (l : List ℕ). g.bs ++ l) (sym (from_on vs k n h)) ∙ g.all;
      room = g.room;
      same = q;
    }

  pub going_done : (s : Sheet) → vs ≡ sheet_values s → sheet_lines ≤ k → Wrote (sheet_text s) old now at
  going_done s e h =
      subst (λ (l : List ℕ). Wrote l old now at)
      (sym (append-nil g.bs) ∙ ap (λ (l : List ℕ). g.bs ++ l) (sym (from_end vs k h)) ∙ g.all ∙ values_text s e) g.wrote

-- ---- the three answers

module _ (good : Bool) (bs old : List ℕ) where
  pub put_refused : good ≡ false → (Err OutOfRange ≡ put_of good bs old) × (old ≡ put_after good bs old)
  put_refused e = (rw e, rw e)

  pub put_short : good ≡ true → length old < length bs → (Err NoRoom ≡ put_of good bs old) × (old ≡ put_after good bs old)
  put_short e h = let f : fits bs old ≡ false = lt-leb (length bs) (length old) h in (rw (e, f), rw (e, f))

  pub put_done : {new : List ℕ} {r : ℕ} → good ≡ true → length bs ≤ length old → Wrote bs old new r → (Ok r ≡ put_of good bs old) × (new ≡ put_after good bs old)
  put_done {new} {r} e h w = let f : fits bs old ≡ true = le-leb (length bs) (length old) h in (rw (e, f, w.count), rw (e, f) w.sheet)

-- the two tests of an entry
pub is_entry_law : (sheet : Sheet) (n : ℕ) (e : Entry) {p q r : Bool} → p ≡ is_sheet sheet → q ≡ in_range sheet n e → r ≡ both p q → is_entry sheet n e ≡ r
unfolding is_entry
is_entry_law sheet n e a b c = sym (c ∙ rw (a, b))
