-- What a line makes whole, case by case, and that a frame stays one that can go on. For the proofs of the functions. Assumes nothing.
use Prim.Native.Nat.{ℕ, ◌+◌, ◌-◌, ◌≤◌, ◌<◌}
use mathlib.Core.Bool.{Bool, true, false, false≢true}
use mathlib.Core.Path.{◌≡◌, sym, ap, subst, ◌∙◌}
use mathlib.Core.List.{List}
use mathlib.Core.Logic.{⊎_elim}
use native.Mathlib.Omega.{arith}
use lib.ListN.{length, take, drop, length-append, length-take, length-drop}
use lib.Seq.{drop-append-le, take_at}
use lib.Dec.{ltb}
use borrow.Author.Tests.{ltb-true, lt-ltb, le-ltb, ne_eqb}
use Rattle.laws.specs.Tests.{pick}
use Rattle.laws.proofs.Tests.{test}
use Rattle.writing.specs.AnswerSheet.{over}
use Rattle.text.specs.TableSheet.{sheet_lines}
use Rattle.lines.specs.declared.Fill.{Fill}
use Rattle.lines.specs.declared.Progress.{Progress}
use Rattle.lines.specs.Kept.{Kept, nothing, Gathered, gather_of, kept_in, fill_of, progress_of, Room, kept_most}
use Rattle.lines.proofs.Keeps.{empty_room}
use Rattle.lines.proofs.Cut.{cap, kept_bytes}
use Rattle.lines.proofs.Gathers.{gather_keeps}
use Rattle.frames.specs.declared.Frame.{Frame}
use Rattle.frames.specs.declared.Next.{Next}
use Rattle.frames.specs.declared.Made.TheVariants as made
use Rattle.frames.specs.declared.Which.{Which}
use Rattle.frames.specs.declared.Due.{Due}
use Rattle.frames.specs.declared.Due.TheVariants.{Pool, Sheet, Table, Stray, Block}
use Rattle.std.specs.Prelude.{Option, Some, None}
use Rattle.frames.specs.Frames.{table_in, table_of, wanted, in_opening, after_part, kept_next, other_next, late_next, line_next, last_line, start_of, Held, whole_heard, kept_heard, heard_as}

-- ---- the table of a number

pub table_none : (x : Option ℕ) {v : ℕ} → x ≡ Some v → (v ≡ 1 → ⊥) → (v ≡ 2 → ⊥) → None ≡ table_in x
table_none x {v} e n m = sym (ap table_in e ∙ rw (ne_eqb v 1 n, ne_eqb v 2 m))

-- ---- how many lines are gathered

pub wanted_range : (due : Due) → (1 ≤ wanted due) × (wanted due ≤ sheet_lines)
wanted_range Pool = (omega arith, omega arith)
wanted_range (Sheet w) = (omega arith, omega arith)
wanted_range Table = (omega arith, omega arith)
wanted_range Stray = (omega arith, omega arith)
wanted_range (Block w) = (omega arith, omega arith)

-- ---- what is due next

module _ (due : Due) (lines : ℕ) (after : Due) {w : ℕ} (q : w ≡ wanted due) where
  pub kept_more : lines < w → record { due = due; keeps = true; what = None } ≡ kept_next due lines after
  unfolding kept_next
  kept_more l = rw (lt-ltb lines (wanted due) (omega (arith, q)))

  pub kept_last : w ≤ lines → record { due = after; keeps = false; what = Some made.Whole } ≡ kept_next due lines after
  unfolding kept_next
  kept_last l = rw (le-ltb lines (wanted due) (omega (arith, q)))

pub line_opening : (due : Due) (lines : ℕ) (table : Option Which) {r : Next} {b : Bool} {d : Due} → b ≡ in_opening due → b ≡ true → d ≡ after_part due → r ≡ kept_next due lines d
    → r ≡ line_next due lines table
line_opening due lines table {r} {b} {d} o y a e =
    e ∙ ap (kept_next due lines) a ∙ sym (ap (λ (t : Bool). pick t (kept_next due lines (after_part due)) (late_next due lines table)) (sym o ∙ y))

pub line_late : (due : Due) (lines : ℕ) (table : Option Which) {r : Next} {b : Bool} → b ≡ in_opening due → b ≡ false → r ≡ late_next due lines table → r ≡ line_next due lines table
line_late due lines table {r} {b} o n e = e ∙ sym (ap (λ (t : Bool). pick t (kept_next due lines (after_part due)) (late_next due lines table)) (sym o ∙ n))

-- ---- a frame that can go on

-- lines that are kept on are not all that are wanted
abbrev GoesOn : ℕ → Next → Type 0
GoesOn lines x = x.keeps ≡ true → lines < wanted x.due

kept_goes : (due : Due) (lines : ℕ) (after : Due) → GoesOn lines (kept_next due lines after)
unfolding kept_next
kept_goes due lines after = ⊎_elim
    (λ e. subst (λ (t : Bool). GoesOn lines (pick t (record { due = due; keeps = true; what = None }) (record { due = after; keeps = false; what = Some made.Whole }))) (sym e) (λ z. ltb-true lines (wanted due) e))
    (λ e. subst (λ (t : Bool). GoesOn lines (pick t (record { due = due; keeps = true; what = None }) (record { due = after; keeps = false; what = Some made.Whole }))) (sym e) (λ z. absurd (false≢true z)))
    (test (ltb lines (wanted due)))

other_goes : (due : Due) (lines : ℕ) → GoesOn lines (other_next due lines)
other_goes Pool lines = λ z. absurd (false≢true z)
other_goes (Sheet w) lines = λ z. absurd (false≢true z)
other_goes Table lines = λ z. absurd (false≢true z)
other_goes Stray lines = λ z. absurd (false≢true z)
other_goes (Block w) lines = kept_goes (Block w) lines Table

late_goes : (due : Due) (lines : ℕ) (table : Option Which) → GoesOn lines (late_next due lines table)
late_goes due lines None = other_goes due lines
late_goes due lines (Some w) = λ z. absurd (false≢true z)

line_goes : (due : Due) (lines : ℕ) (table : Option Which) → GoesOn lines (line_next due lines table)
line_goes due lines table = go (in_opening due)
  where
    go : (b : Bool) → GoesOn lines (pick b (kept_next due lines (after_part due)) (late_next due lines table))
    go true = kept_goes due lines (after_part due)
    go false = late_goes due lines table

held_next : (x : Next) (k : Fill) → GoesOn k.lines x → Room k → Held (record { due = x.due; fill = pick x.keeps k (fill_of nothing) })
held_next x k h r = ⊎_elim
    (λ e. subst (λ (t : Bool). Held (record { due = x.due; fill = pick t k (fill_of nothing) })) (sym e) (record { room = r; lines = h e }))
    (λ e. subst (λ (t : Bool). Held (record { due = x.due; fill = pick t k (fill_of nothing) })) (sym e) (record { room = empty_room; lines = omega (arith, (wanted_range x.due).0) }))
    (test x.keeps)

pub started : {z : Fill} → z ≡ fill_of nothing → (record { due = Pool; fill = z } ≡ start_of) × Held (record { due = Pool; fill = z })
started {z} e = (
  ap (λ (m : Fill). record { due = Pool; fill = m }) e,
  subst (λ (m : Fill). Held (record { due = Pool; fill = m })) (sym e) (record { room = empty_room; lines = omega arith }),
)

-- ---- `hear`

-- no fewer bytes are kept than were
gathers_longer : (want : ℕ) (k : Kept) (part : List ℕ) → length k.bytes ≤ length (gather_of want k part).kept.bytes
gathers_longer want k part =
    let bs : List ℕ = take (gather_of want k part).used part in
    omega (arith, ap (λ (x : Kept). length x.bytes) (gather_keeps want k part), ap length (kept_bytes k bs), length-append k.bytes (cap k.width bs))

module _ (f : Frame) (buf part : List ℕ) (h : Held f) (size : kept_most ≤ length buf) {got : Progress} {buf2 : List ℕ}
    (e : got ≡ progress_of (gather_of (f.fill.lines + 1) (kept_in f.fill buf) part))
    (q : buf2 ≡ over (gather_of (f.fill.lines + 1) (kept_in f.fill buf) part).kept.bytes buf) (room : Room got.fill) where
  abbrev g : Gathered
  g = gather_of (f.fill.lines + 1) (kept_in f.fill buf) part

  abbrev from : ℕ
  from = f.fill.count - f.fill.width

  fill_is : got.fill ≡ fill_of g.kept
  fill_is = ap (λ (x : Progress). x.fill) e

  pub from_within : from ≤ got.fill.count
  from_within =
      omega (arith, gathers_longer (f.fill.lines + 1) (kept_in f.fill buf) part, length-take f.fill.count buf, h.room.most, size, ap (λ (m : Fill). m.count) fill_is)

  pub heard_kept : got.fill.lines ≤ f.fill.lines
      → (record { frame = record { due = f.due; fill = got.fill }; used = got.used; what = None; of = f.due; count = 0 } ≡ heard_as f g) × Held (record { due = f.due; fill = got.fill })
  unfolding heard_as
  heard_kept l =
      let n : ltb f.fill.lines g.kept.lines ≡ false = le-ltb f.fill.lines g.kept.lines (omega (arith, l, ap (λ (m : Fill). m.lines) fill_is)) in
      let next : Next = last_line f.due g.kept from in (
        ap (λ (x : Progress). record { frame = record { due = f.due; fill = x.fill }; used = x.used; what = None; of = f.due; count = 0 }) e
            ∙ sym (ap (λ (t : Bool). pick t (whole_heard f g next) (kept_heard f g)) n),
        record { room = room; lines = omega (arith, l, h.lines) },
      )

  -- the line that has come, where it lies
  line_is : take (got.fill.count - from) (drop from buf2) ≡ drop from g.kept.bytes
  line_is =
      let bytes : List ℕ = g.kept.bytes in
      let rest : List ℕ = drop (length bytes) buf in
      let c : got.fill.count ≡ length bytes = ap (λ (m : Fill). m.count) fill_is in
      let w : from ≤ length bytes = omega (arith, from_within, c) in
      ap (λ (l : List ℕ). take (got.fill.count - from) (drop from l)) q
      ∙ ap (take (got.fill.count - from)) (drop-append-le from bytes rest w)
      ∙ take_at (drop from bytes) rest (got.fill.count - from) (length-drop from bytes ∙ omega (arith, c))

  module _ {table : Option Which} {next : Next} {fill : Fill} (t : table ≡ table_of (take (got.fill.count - from) (drop from buf2)))
      (n : next ≡ line_next f.due got.fill.lines table) (m : fill ≡ pick next.keeps got.fill (fill_of nothing)) where
    next-is : next ≡ last_line f.due g.kept from
    next-is =
        n
        ∙ ap (λ (i : ℕ). line_next f.due i table) (ap (λ (x : Fill). x.lines) fill_is)
        ∙ ap (line_next f.due g.kept.lines) (t ∙ ap table_of line_is)

    pub heard_whole : f.fill.lines < got.fill.lines
        → (record { frame = record { due = next.due; fill = fill }; used = got.used; what = next.what; of = f.due; count = got.fill.count } ≡ heard_as f g)
        × Held (record { due = next.due; fill = fill })
    unfolding heard_as
    heard_whole l =
        let y : ltb f.fill.lines g.kept.lines ≡ true = lt-ltb f.fill.lines g.kept.lines (omega (arith, l, ap (λ (x : Fill). x.lines) fill_is)) in
        let last : Next = last_line f.due g.kept from in (
          ap (λ (x : Fill). record { frame = record { due = next.due; fill = x }; used = got.used; what = next.what; of = f.due; count = got.fill.count }) m
              ∙ ap (λ (x : Progress). record { frame = record { due = next.due; fill = pick next.keeps x.fill (fill_of nothing) }; used = x.used; what = next.what; of = f.due; count = x.fill.count }) e
              ∙ ap (whole_heard f g) next-is
              ∙ sym (ap (λ (b : Bool). pick b (whole_heard f g last) (kept_heard f g)) y),
          subst (λ (x : Fill). Held (record { due = next.due; fill = x })) (sym m)
              (held_next next got.fill (subst (GoesOn got.fill.lines) (sym n) (line_goes f.due got.fill.lines table)) room),
        )
