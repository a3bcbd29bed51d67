-- Bytes put at a place of a buffer: where they have room and where not, what stands before and behind them, and how long the buffer is. Assumes nothing.
use mathlib.Core.Path.{◌≡◌, sym, ap, ◌∙◌, subst}
use mathlib.Core.Bool.{Bool}
use mathlib.Core.List.{List, ◌++◌}
use Prim.Native.Nat.{ℕ, ◌+◌, ◌-◌, ◌*◌, ◌≤◌, ◌<◌}
use native.Mathlib.Omega.{arith}
use lib.ListN.{length, take, drop, length-append}
use lib.Seq.{take-append_seam, drop-append_seam}
use borrow.Author.Tests.{le-leb, lt-leb}
use borrow.Rule.Slice.PartMut.{mid_of, put_mid}
use Rattle.laws.specs.Tests.{pick}
use Rattle.writing.specs.AnswerSheet.{over, Wrote}
use Rattle.text.proofs.Parts.{part_is, part_back}
use Rattle.paper.specs.declared.Numbers.{Numbers}
use Rattle.records.specs.Bytes.{put_at}
use Rattle.records.specs.Stored.{record_bytes, put_record, row_bytes, put_row}
use Rattle.records.proofs.Words.{row_length}

module _ (at : ℕ) (bs l : List ℕ) where
  pub put_room : at + length bs ≤ length l → put_at at bs l ≡ take at l ++ over bs (drop at l)
  unfolding put_at
  put_room h = ap (λ (t : Bool). pick t (take at l ++ over bs (drop at l)) l) (le-leb (at + length bs) (length l) h)

  pub put_none : length l < at + length bs → put_at at bs l ≡ l
  unfolding put_at
  put_none h = ap (λ (t : Bool). pick t (take at l ++ over bs (drop at l)) l) (lt-leb (at + length bs) (length l) h)

  -- by a writer that was lent the part from there on
  pub put_by : {mid new : List ℕ} {r : ℕ} → at + length bs ≤ length l → Wrote bs (mid_of at (length l - at) l) mid r → new ≡ put_mid at (length l - at) l mid
      → new ≡ put_at at bs l
  put_by {mid} {new} h w p =
      p ∙ part_back at l mid ∙ ap (λ (t : List ℕ). take at l ++ t) (w.sheet ∙ ap (over bs) (part_is at l)) ∙ sym (put_room h)

-- bytes that stand in the place of as many others
pub put_over : (front old rest bs : List ℕ) (at : ℕ) → length front ≡ at → length old ≡ length bs → put_at at bs (front ++ (old ++ rest)) ≡ front ++ (bs ++ rest)
put_over front old rest bs at e h =
    ap (λ (k : ℕ). put_at k bs l) (sym e)
    ∙ put_room (length front) bs l (omega (arith, length-append front (old ++ rest), length-append old rest, h))
    ∙ ap (λ (t : List ℕ). t ++ over bs (drop (length front) l)) (take-append_seam front (old ++ rest))
    ∙ ap (λ (t : List ℕ). front ++ over bs t) (drop-append_seam front (old ++ rest))
    ∙ ap (λ (k : ℕ). front ++ (bs ++ drop k (old ++ rest))) (sym h)
    ∙ ap (λ (t : List ℕ). front ++ (bs ++ t)) (drop-append_seam old rest)
  where
    l : List ℕ
    l = front ++ (old ++ rest)

-- ---- a record, and a row

module _ (log : List ℕ) (k : ℕ) (x : Numbers) where
  pub record_put : {bs mid new : List ℕ} {r : ℕ} → bs ≡ record_bytes x → 8 * k + 8 ≤ length log → Wrote bs (mid_of (8 * k) (length log - 8 * k) log) mid r
      → new ≡ put_mid (8 * k) (length log - 8 * k) log mid → new ≡ put_record log k x
  record_put {bs} {mid} {new} {r} e h w p =
      put_by (8 * k) (record_bytes x) log h (subst (λ (l : List ℕ). Wrote l (mid_of (8 * k) (length log - 8 * k) log) mid r) e w) p

  pub record_none : length log < 8 * k + 8 → log ≡ put_record log k x
  record_none h = sym (put_none (8 * k) (record_bytes x) log h)

module _ (index : List ℕ) (h n : ℕ) (ws : List ℕ) (ten : length ws ≡ 10) where
  pub row_put : {mid new : List ℕ} {r : ℕ} → 44 * h + 44 ≤ length index → Wrote (row_bytes n ws) (mid_of (44 * h) (length index - 44 * h) index) mid r
      → new ≡ put_mid (44 * h) (length index - 44 * h) index mid → new ≡ put_row index h n ws
  row_put {mid} {new} {r} l w p = put_by (44 * h) (row_bytes n ws) index (omega (arith, l, row_length n ws ten)) w p

  pub row_none : length index < 44 * h + 44 → index ≡ put_row index h n ws
  row_none l = sym (put_none (44 * h) (row_bytes n ws) index (omega (arith, l, row_length n ws ten)))
