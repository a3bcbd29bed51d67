-- What is seen after whole lines, after a part of the log, and at its end. Assumes nothing.
use Prim.Native.Nat.{ℕ, ◌-◌, ◌≤◌, ◌<◌}
use mathlib.Core.Path.{◌≡◌, sym, ap, ◌∙◌}
use mathlib.Core.Bool.{Bool, true, false, not}
use mathlib.Core.List.{List}
use lib.ListN.{length, take, drop}
use lib.Seq.{take-append_seam}
use lib.Dec.{eqb, ltb}
use native.Mathlib.Omega.{arith}
use borrow.Author.Tests.{lt-ltb, le-ltb, eq-eqb, ne_eqb}
use Rattle.laws.specs.Tests.{pick, both, either}
use Rattle.writing.specs.AnswerSheet.{over}
use Rattle.blocks.specs.Block.{block_of}
use Rattle.blocks.specs.declared.Block.{Block}
use Rattle.lines.specs.declared.Fill.{Fill}
use Rattle.lines.specs.declared.Progress.{Progress}
use Rattle.lines.specs.Kept.{nothing, lines_of, Gathered, gather_of, kept_in, fill_of, progress_of}
use Rattle.table.specs.declared.table.Table.{Table}
use Rattle.desk.specs.Desk.{judged_of}
use Rattle.desk.specs.declared.Judged.{Judged}
use Rattle.seen.specs.Told.{told_after}
use Rattle.seen.specs.Seen.{after_block, after_sheet, shut_of, after_lines, kept_on, gathered_by, gathered_to, fed_of, buffer_of, closed_to, ends_open}
use Rattle.seen.specs.declared.told.Told.{Told}
use Rattle.seen.specs.declared.feed.Seen.{Seen}
use Rattle.seen.specs.declared.feed.Fed.{Fed}
use Rattle.seen.proofs.Laws.{pick_true, pick_false}

abbrev seen_with : Table → Fill → Told → Seen
seen_with t m o = record { opened = true; shut = false; table = t; fill = m; told = o }

pub block_seen : (s : Seen) (block : List ℕ) {j : Judged} {b : Block} {o : Told} {m : Fill} → j ≡ judged_of s.table block → b ≡ block_of block
    → o ≡ told_after s.told b j → m ≡ fill_of nothing → seen_with j.table m o ≡ after_block s block
unfolding after_block
block_seen s block {j} {b} {o} {m} ej eb eo em =
    ap (λ (x : Fill). seen_with j.table x o) em
    ∙ ap (seen_with j.table (fill_of nothing)) (eo ∙ ap (λ (x : Block). told_after s.told x j) eb)
    ∙ ap (λ (x : Judged). seen_with x.table (fill_of nothing) (told_after s.told (block_of block) x)) ej

pub lines_block : (s : Seen) (block : List ℕ) {r : Seen} → s.opened ≡ true → r ≡ after_block s block → r ≡ after_lines s block
unfolding after_lines
lines_block s block e h = h ∙ pick_true s.opened (after_block s block) (after_sheet s block) e

pub lines_sheet : (s : Seen) (block : List ℕ) {r : Seen} → s.opened ≡ false → r ≡ after_sheet s block → r ≡ after_lines s block
unfolding after_lines
lines_sheet s block e h = h ∙ pick_false s.opened (after_block s block) (after_sheet s block) e

-- ---- a part of the log

abbrev fed_with : Seen → ℕ → Bool → Fed
fed_with s n fresh = record { seen = s; used = n; fresh = fresh }

module _ (s : Seen) (buf part : List ℕ) where
  abbrev g : Gathered
  g = gathered_by s buf part

  abbrev more : Bool
  more = ltb g.kept.lines (lines_of s.opened)

  abbrev goes_on : Fed
  goes_on = fed_with (kept_on s (fill_of g.kept)) g.used false

  abbrev has_ended : Fed
  has_ended = fed_with (after_lines s g.kept.bytes) g.used true

  abbrev passed_over : Fed
  passed_over = fed_with s (length part) false

  pub fed_shut : s.shut ≡ true → (passed_over ≡ fed_of s buf part) × (buf ≡ buffer_of s buf part)
  unfolding fed_of buffer_of
  fed_shut e = (pick_true s.shut passed_over (gathered_to s g) e, pick_true s.shut buf (over g.kept.bytes buf) e)

  module _ {got : Progress} {want : ℕ} {buf2 : List ℕ} (open-yet : s.shut ≡ false) (wanted : want ≡ lines_of s.opened)
      (got-at : got ≡ progress_of (gather_of want (kept_in s.fill buf) part)) (buf-at : buf2 ≡ over (gather_of want (kept_in s.fill buf) part).kept.bytes buf) where
    got-is : got ≡ progress_of g
    got-is = got-at ∙ ap (λ (n : ℕ). progress_of (gather_of n (kept_in s.fill buf) part)) wanted

    buf-is : buf2 ≡ over g.kept.bytes buf
    buf-is = buf-at ∙ ap (λ (n : ℕ). over (gather_of n (kept_in s.fill buf) part).kept.bytes buf) wanted

    pub buffer-is : buf2 ≡ buffer_of s buf part
    unfolding buffer_of
    buffer-is = buf-is ∙ pick_false s.shut buf (over g.kept.bytes buf) open-yet

    fed-is : {r : Fed} → r ≡ gathered_to s g → r ≡ fed_of s buf part
    unfolding fed_of
    fed-is h = h ∙ pick_false s.shut passed_over (gathered_to s g) open-yet

    pub fed_kept : {k : Seen} → got.fill.lines < want → k ≡ kept_on s got.fill → fed_with k got.used false ≡ fed_of s buf part
    fed_kept h e =
        fed-is
        (ap (λ (x : Seen). fed_with x got.used false) e
        ∙ ap (λ (x : Progress). fed_with (kept_on s x.fill) x.used false) got-is
        ∙ pick_true more goes_on has_ended (lt-ltb g.kept.lines (lines_of s.opened) (omega (arith, h, wanted, ap (λ (x : Progress). x.fill.lines) got-is))))

    pub fed_whole : {k : Seen} → want ≤ got.fill.lines → k ≡ after_lines s (take (got.fill.count - 0) (drop 0 buf2))
        → fed_with k got.used true ≡ fed_of s buf part
    fed_whole h e =
        let i : got.fill.count - 0 ≡ length g.kept.bytes = omega (arith, ap (λ (x : Progress). x.fill.count) got-is) in
        let bytes : take (got.fill.count - 0) (drop 0 buf2) ≡ g.kept.bytes =
        ap (λ (n : ℕ). take n buf2) i ∙ ap (take (length g.kept.bytes)) buf-is ∙ take-append_seam g.kept.bytes (drop (length g.kept.bytes) buf) in
        fed-is
        (ap (λ (x : Seen). fed_with x got.used true) (e ∙ ap (after_lines s) bytes)
        ∙ ap (λ (x : Progress). fed_with (after_lines s g.kept.bytes) x.used true) got-is
        ∙ pick_false more goes_on has_ended (le-ltb g.kept.lines (lines_of s.opened) (omega (arith, h, wanted, ap (λ (x : Progress). x.fill.lines) got-is))))

-- ---- the end of the log

module _ (s : Seen) (buf : List ℕ) where
  abbrev none : Bool
  none = eqb s.fill.count 0

  abbrev unfinished : Seen
  unfinished = after_block s (take s.fill.count buf)

  abbrev opened : Seen
  opened = pick none s unfinished

  abbrev unshut : Seen
  unshut = pick s.opened opened (shut_of s)

  pub close_shut : s.shut ≡ true → s ≡ closed_to s buf
  unfolding closed_to
  close_shut e = pick_true s.shut s unshut e

  pub close_none : s.shut ≡ false → s.opened ≡ true → s.fill.count ≡ 0 → s ≡ closed_to s buf
  unfolding closed_to
  close_none e o n = pick_true none s unfinished (eq-eqb _ _ n) ∙ pick_true s.opened opened (shut_of s) o ∙ pick_false s.shut s unshut e

  pub close_block : {r : Seen} → s.shut ≡ false → s.opened ≡ true → (s.fill.count ≡ 0 → ⊥)
      → r ≡ after_block s (take (s.fill.count - 0) (drop 0 buf)) → r ≡ closed_to s buf
  unfolding closed_to
  close_block e o n h =
      let i : s.fill.count - 0 ≡ s.fill.count = omega arith in
      h ∙ ap (λ (k : ℕ). after_block s (take k buf)) i ∙ pick_false none s unfinished (ne_eqb _ _ n) ∙ pick_true s.opened opened (shut_of s) o ∙ pick_false s.shut s unshut e

  pub close_sheet : {r : Seen} → s.shut ≡ false → s.opened ≡ false → r ≡ shut_of s → r ≡ closed_to s buf
  unfolding closed_to
  close_sheet e o h = h ∙ pick_false s.opened opened (shut_of s) o ∙ pick_false s.shut s unshut e

module _ (s : Seen) where
  abbrev all_of : Bool
  all_of = both s.opened (eqb s.fill.count 0)

  pub ends_shut : s.shut ≡ true → false ≡ ends_open s
  unfolding ends_open
  ends_shut e = sym (ap (λ (b : Bool). both (not b) (either (not all_of) s.table.play.opened)) e)

  pub ends_else : {w r : Bool} → s.shut ≡ false → w ≡ all_of → r ≡ either (not w) s.table.play.opened → r ≡ ends_open s
  unfolding ends_open
  ends_else e ew er =
      er ∙ ap (λ (b : Bool). either (not b) s.table.play.opened) ew
      ∙ sym (ap (λ (b : Bool). both (not b) (either (not all_of) s.table.play.opened)) e)
