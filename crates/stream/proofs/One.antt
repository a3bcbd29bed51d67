-- A block answered by way of `in_place`, alone: its own bytes where it is whole, five empty lines, which are malformed as well, where it is not. Assumes nothing.
use mathlib.Core.Path.{◌≡◌, refl, sym, ap, subst, ◌∙◌}
use mathlib.Core.List.{List, [], ◌∷◌, ◌++◌, append-nil}
use mathlib.Core.Bool.{Bool, true, false}
use mathlib.Core.Logic.{⊎_elim}
use Prim.Native.Nat.{ℕ, ◌-◌, ◌≤◌, ◌<◌}
use native.Mathlib.Omega.{arith}
use lib.ListN.{length, take, drop, length-append, take-append-drop}
use lib.Dec.{eqb, leb, ltb}
use borrow.Author.Tests.{ne_eqb, eq-eqb}
use Rattle.std.specs.Prelude.{Option, Some, None, Ok, Err}
use Rattle.paper.specs.declared.refusal.Refusal.TheVariants.{NoRoom}
use Rattle.laws.specs.Tests.{pick, both}
use Rattle.laws.proofs.Tests.{test, both_true}
use Rattle.text.specs.Line.{line_len, line_number, value_of, after_line, after_lines}
use Rattle.text.specs.Number.{number_of, well_formed}
use Rattle.blocks.proofs.Blocks.{rest_drop}
use Rattle.blocks.specs.Block.{block_of, block_from, line_kind, rest_of}
use Rattle.blocks.specs.Front.{block_ended}
use Rattle.blocks.specs.declared.Block.{Block}
use Rattle.blocks.specs.declared.Block.TheVariants.{Malformed, Nothing}
use Rattle.text.proofs.Lines.{after_lines_no_longer}
use Rattle.lines.proofs.Cut.{ended, lfs, lfs_on, ended_is, lfs_append, lines_front, lines_lfs, front_block}
use Rattle.lines.proofs.Whole.{five_lfs, value_open}
use Rattle.lines.specs.declared.Fill.{Fill}
use Rattle.lines.specs.Kept.{nothing, fill_of}
use Rattle.writing.specs.AnswerSheet.{over, sheet_after}
use Rattle.table.specs.declared.table.Table.{Table}
use Rattle.table.specs.Take.{Sound}
use Rattle.desk.specs.declared.Answered.{Answered}
use Rattle.desk.specs.Desk.{judged_of, block_bytes, answered_from, answered_of}
use Rattle.desk.proofs.Laws.{judged_most, nothing_answered}
use Rattle.stream.specs.declared.ClerkAfter.{ClerkAfter}
use Rattle.stream.specs.declared.place.RanInPlace.{RanInPlace}
use Rattle.stream.specs.Onward.{lines_done}
use Rattle.stream.specs.InPlace.{InPlace, stopped, behind, answers_front, in_place_of, ran_of}
use Rattle.stream.specs.Feeding.{state_at, Held, Gave}
use Rattle.stream.proofs.InPlace.{judged_same, bytes_same}
use Rattle.stream.proofs.Runs.{front_some, empty_front, place_none, place_more}
use Rattle.stream.proofs.Steps.{block_gave}

-- ---- for the proofs of small functions

pub ended_by : (l : List ℕ) {fifth : List ℕ} {e : ℕ} → fifth ≡ after_lines 4 l → e ≡ line_len fifth → ltb e (length fifth) ≡ block_ended l
unfolding block_ended
ended_by l f g = rw (g, f)

pub after_is : (u : Table) (n : ℕ) (b : Bool) {m : Fill} → m ≡ fill_of nothing
    → ◌≡◌ {A = ClerkAfter} (record { clerk = record { opened = true; shut = false; table = u; fill = m }; written = n; short = b })
    (record { clerk = record { opened = true; shut = false; table = u; fill = fill_of nothing }; written = n; short = b })
after_is u n b e = ap (λ (m : Fill). record { clerk = record { opened = true; shut = false; table = u; fill = m }; written = n; short = b }) e

-- ---- a block that is not whole is malformed

number_open : (key x : List ℕ) → ended x ≡ false → line_number key x ≡ None
unfolding number_of well_formed
number_open key x h = ap number_of (value_open key x h)

from_open : (n k s a : Option ℕ) → block_from n k s a None ≡ Malformed
from_open None k s a = refl
from_open (Some n) None s a = refl
from_open (Some n) (Some k) None a = refl
from_open (Some n) (Some k) (Some s) None = refl
from_open (Some n) (Some k) (Some s) (Some a) = refl

pub open_malformed : (l : List ℕ) → 0 < length l → block_ended l ≡ false → block_of l ≡ Malformed
unfolding block_of block_ended
open_malformed l h e =
    let z : line_number (98 ∷ []) (after_lines 4 l) ≡ None = number_open (98 ∷ []) (after_lines 4 l) (sym (ended_is (after_lines 4 l)) ∙ e) in
    ap (λ (t : Bool). pick t Nothing (read (line_number (98 ∷ []) (after_lines 4 l)))) (ne_eqb (length l) 0 (λ q. omega arith))
    ∙ ap read z
    ∙ from_open (line_number (110 ∷ []) l) (line_kind (after_line l)) (line_number (115 ∷ 101 ∷ 97 ∷ 116 ∷ []) (after_line (after_line l))) (line_number (97 ∷ []) (after_line (after_line (after_line l))))
  where
    read : Option ℕ → Block
    read b =
        block_from
        (line_number (110 ∷ []) l)
        (line_kind (after_line l))
        (line_number (115 ∷ 101 ∷ 97 ∷ 116 ∷ []) (after_line (after_line l)))
        (line_number (97 ∷ []) (after_line (after_line (after_line l))))
        b

-- and so are five empty lines
abbrev pub empty_lines : List ℕ
empty_lines = 10 ∷ 10 ∷ 10 ∷ 10 ∷ 10 ∷ []

-- a block alone: its fifth line is ended, and nothing follows
pub record Alone (block x : List ℕ) : Type 0 where
  pub reads : block_of x ≡ block_of block
  pub whole : block_ended x ≡ true
  pub last : length (rest_of x) ≡ 0

lines_malformed : block_of empty_lines ≡ Malformed
unfolding block_of value_of number_of well_formed
lines_malformed = refl

lines_whole : block_ended empty_lines ≡ true
unfolding block_ended
lines_whole = refl

lines_last : length (rest_of empty_lines) ≡ 0
unfolding rest_of
lines_last = refl

pub open_alone : (block : List ℕ) → (length block ≡ 0 → ⊥) → block_ended block ≡ false → Alone block empty_lines
open_alone block h e = record { reads = lines_malformed ∙ sym (open_malformed block (omega (arith, h)) e); whole = lines_whole; last = lines_last }

-- ---- a whole block without what follows it

some_ended : (l : List ℕ) → 1 ≤ lfs l → ended l ≡ true
some_ended [] h = absurd (omega arith)
some_ended (b ∷ l) h = ⊎_elim
    (λ e. ap (λ (x : Bool). pick x true (ended l)) e)
    (λ e. ap (λ (x : Bool). pick x true (ended l)) e ∙ some_ended l (omega (arith, lfs_on b l e)))
    (test (eqb b 10))

five_ended : (l : List ℕ) → 5 ≤ lfs l → block_ended l ≡ true
unfolding block_ended
five_ended l h = ended_is (after_lines 4 l) ∙ some_ended (after_lines 4 l) (omega (arith, lines_lfs 4 l (omega arith)))

pub front_alone : (l : List ℕ) (n : ℕ) → n ≡ length l - length (rest_of l) → drop n l ≡ rest_of l → block_ended l ≡ true → Alone l (take n l)
unfolding rest_of
front_alone l n m d e =
    let x : List ℕ = take n l in
    let h : 5 ≤ lfs l = five_lfs l e in
    let split : x ++ rest_of l ≡ l = ap (λ (r : List ℕ). x ++ r) (sym d) ∙ take-append-drop n l in
    let few : 5 ≤ lfs x = omega (arith, lines_lfs 5 l h, lfs_append x (rest_of l), ap lfs split) in
    record {
      reads = sym (front_block x (rest_of l) few) ∙ ap block_of split;
      whole = five_ended x few;
      last = omega (arith, ap length (sym (lines_front 5 x (rest_of l) few) ∙ ap (after_lines 5) split), length-append (after_lines 5 x) (rest_of l));
    }

-- the same as the part of a slice
pub front_part : (l : List ℕ) {left : List ℕ} → left ≡ rest_of l → block_ended l ≡ true → Alone l (take (length l - length left - 0) (drop 0 l))
front_part l {left} e h =
    let n : length l - length left - 0 ≡ length l - length (rest_of l) = omega (arith, ap length e) in
    subst (λ (i : ℕ). Alone l (take i l)) (sym n) (front_alone l (length l - length (rest_of l)) refl (rest_drop l) h)

pub rest_within : (l : List ℕ) {left : List ℕ} → left ≡ rest_of l → length left ≤ length l
unfolding rest_of
rest_within l e = omega (arith, ap length e, after_lines_no_longer 5 l)

-- ---- what `in_place` does with it is what the desk answers

answered_as : (t : Table) (x y sheet : List ℕ) → block_of x ≡ block_of y → answered_of t x sheet ≡ answered_of t y sheet
unfolding answered_of
answered_as t x y sheet e = rw (judged_same t x y e, bytes_same t x y e)

record Same (t : Table) (block out new : List ℕ) (a : RanInPlace) : Type 0 where
  table : a.table ≡ (answered_of t block out).table
  written : a.written ≡ (answered_of t block out).written
  short : eqb a.used 0 ≡ eqb (answered_of t block out).code 12
  sheet : new ≡ sheet_after (block_bytes t block) out

module _ (t : Table) (block x out : List ℕ) (o : Alone block x) where
  abbrev bs : List ℕ
  bs = block_bytes t x

  abbrev told : Bool → Answered
  told b = answered_from t (judged_of t x) (pick b (Ok (length bs)) (Err NoRoom))

  answered : (b : Bool) → leb (length bs) (length out) ≡ b → answered_of t block out ≡ told b
  unfolding answered_of
  answered b e = sym (answered_as t x block out o.reads) ∙ ap told e

  after : (b : Bool) → leb (length bs) (length out) ≡ b → sheet_after (block_bytes t block) out ≡ pick b (over bs out) out
  after b e = ap (λ (l : List ℕ). sheet_after l out) (sym (bytes_same t x block o.reads)) ∙ ap (λ (z : Bool). pick z (over bs out) out) e

  yes : {a : RanInPlace} {new : List ℕ} → answers_front t x (length out) ≡ true → a ≡ ran_of (in_place_of t x (length out)) x
      → new ≡ over (in_place_of t x (length out)).bytes out → Same t block out new a
  yes {a} {new} h p q =
      let fit = (both_true (block_ended x) (leb (length bs) (length out)) h).1 in
      let u : Table = (judged_of t x).table in
      let end : in_place_of t x (length out) ≡ record { table = u; bytes = bs ++ []; left = rest_of x } =
      place_more t x (length out) h
      ∙ ap (behind bs) (place_none u (rest_of x) (length out - length bs) (empty_front u (rest_of x) (length out - length bs) (omega (arith, o.last)))) in
      let ran : a ≡ record { table = u; used = length x - length (rest_of x); written = length (bs ++ []) } = p ∙ ap (λ (z : InPlace). ran_of z x) end in
      let all : a.used ≡ length x - length (rest_of x) = ap (λ (z : RanInPlace). z.used) ran in
      let code : (answered_of t block out).code ≡ (judged_of t x).code = ap (λ (z : Answered). z.code) (answered true fit) in
      record {
        table = ap (λ (z : RanInPlace). z.table) ran ∙ sym (ap (λ (z : Answered). z.table) (answered true fit));
        written = ap (λ (z : RanInPlace). z.written) ran ∙ ap length (append-nil bs) ∙ sym (ap (λ (z : Answered). z.written) (answered true fit));
        short = ne_eqb a.used 0 (λ z. omega (arith, all, o.last, front_some t x (length out) h)) ∙ sym (ne_eqb (answered_of t block out).code 12 (λ z. omega (arith, code, judged_most t x)));
        sheet = q ∙ ap (λ (z : InPlace). over z.bytes out) end ∙ ap (λ (l : List ℕ). over l out) (append-nil bs) ∙ sym (after true fit);
      }

  no : {a : RanInPlace} {new : List ℕ} → answers_front t x (length out) ≡ false → a ≡ ran_of (in_place_of t x (length out)) x
      → new ≡ over (in_place_of t x (length out)).bytes out → Same t block out new a
  no {a} {new} h p q =
      let full : leb (length bs) (length out) ≡ false = sym (ap (λ (z : Bool). both z (leb (length bs) (length out))) o.whole) ∙ h in
      let end : in_place_of t x (length out) ≡ stopped t x = place_none t x (length out) h in
      let ran : a ≡ record { table = t; used = length x - length x; written = 0 } = p ∙ ap (λ (z : InPlace). ran_of z x) end in
      let none : a.used ≡ length x - length x = ap (λ (z : RanInPlace). z.used) ran in
      record {
        table = ap (λ (z : RanInPlace). z.table) ran ∙ sym (ap (λ (z : Answered). z.table) (answered false full));
        written = ap (λ (z : RanInPlace). z.written) ran ∙ sym (ap (λ (z : Answered). z.written) (answered false full));
        short = eq-eqb a.used 0 (omega (arith, none)) ∙ sym (ap (λ (z : Answered). eqb z.code 12) (answered false full));
        sheet = q ∙ ap (λ (z : InPlace). over z.bytes out) end ∙ sym (after false full);
      }

  pub one_gave : {a : RanInPlace} {new : List ℕ} {d : ClerkAfter} → a ≡ ran_of (in_place_of t x (length out)) x → new ≡ over (in_place_of t x (length out)).bytes out → Sound a.table
      → d ≡ record { clerk = record { opened = true; shut = false; table = a.table; fill = fill_of nothing }; written = a.written; short = eqb a.used 0 }
      → Gave t (lines_done (length out) (state_at true t) block) out new d.clerk d.written d.short × (Held d.clerk × (d.written ≤ length out))
  one_gave {a} {new} {d} p q s r =
      let k : Same t block out new a = ⊎_elim (λ h. yes h p q) (λ h. no h p q) (test (answers_front t x (length out))) in
      subst Given (sym r) (subst (λ (n : ℕ). Given (after-as a.table n)) (sym k.written) (subst (λ (u : Table). Given (after-as u (answered_of t block out).written)) (sym k.table)
      (block_gave t block out {a = answered_of t block out} {new = new} refl k.sheet refl k.short (subst Sound k.table s))))
    where
      after-as : Table → ℕ → ClerkAfter
      after-as u n = record { clerk = record { opened = true; shut = false; table = u; fill = fill_of nothing }; written = n; short = eqb a.used 0 }

      Given : ClerkAfter → Type 0
      Given z = Gave t (lines_done (length out) (state_at true t) block) out new z.clerk z.written z.short × (Held z.clerk × (z.written ≤ length out))

-- no bytes: there is no block, and no answer
pub none_gave : (t : Table) (block out : List ℕ) {d : ClerkAfter} → length block ≡ 0 → Sound t
    → d ≡ record { clerk = record { opened = true; shut = false; table = t; fill = fill_of nothing }; written = 0; short = false }
    → Gave t (lines_done (length out) (state_at true t) block) out out d.clerk d.written d.short × (Held d.clerk × (d.written ≤ length out))
none_gave t (b ∷ block) out h s r = absurd (omega arith)
none_gave t [] out {d} h s r =
    let k = nothing_answered t out in
    subst Given (sym r) (block_gave t [] out {a = record { block = false; code = 1; table = t; written = 0 }} {new = out} (sym k.0) (sym k.1) refl refl s)
  where
    Given : ClerkAfter → Type 0
    Given z = Gave t (lines_done (length out) (state_at true t) []) out out z.clerk z.written z.short × (Held z.clerk × (z.written ≤ length out))
