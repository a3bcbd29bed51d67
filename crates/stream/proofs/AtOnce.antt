-- Request No. 9: bytes one by one, and then the close, lead where the whole log leads that is read at once: the same codes, the same bytes, the same state. For any
-- log, good sheet or bad, and any room for each answer. Assumes nothing.
use Rattle.std.specs.Prelude.{Result, Ok, Err}
use Rattle.paper.specs.declared.Sheet.{Sheet}
use Rattle.paper.specs.declared.refusal.Refusal.TheVariants.{BadSheet}
use Rattle.paper.specs.declared.refusal.Refusal.{Refusal}
use Rattle.desk.specs.Log.{lone_read, opened_of, table_in}
use mathlib.Core.Path.{◌≡◌, refl, sym, ap, subst, ◌∙◌}
use mathlib.Core.List.{List, [], ◌∷◌}
use mathlib.Core.Bool.{Bool, false}
use mathlib.Core.Logic.{⊎_elim}
use Prim.Native.Nat.{ℕ, zero, suc, ◌-◌, ◌≤◌, ◌<◌}
use native.Mathlib.Omega.{arith}
use lib.ListN.{length, take, drop, take-append-drop}
use lib.Seq.{take_all}
use lib.Dec.{eqb}
use borrow.Author.Tests.{ne_eqb}
use Rattle.laws.specs.Tests.{pick}
use Rattle.laws.proofs.Sums.{le_or_lt}
use Rattle.blocks.specs.Block.{rest_of}
use Rattle.text.specs.TableSheet.{sheet_lines, sheet_of, sheet_end}
use Rattle.blocks.proofs.Blocks.{rest_shorter}
use Rattle.lines.specs.Kept.{Kept, nothing, keep_all, Gathered, gather_of}
use Rattle.lines.proofs.Cut.{cap, lfs, lines_none}
use Rattle.lines.proofs.Whole.{cut_block, kept_is, cut_some, cut_sheet, front_sheet, sheet_open}
use Rattle.lines.proofs.Gathers.{gather_keeps, gather_lines, open_kept, whole_kept}
use Rattle.table.specs.declared.table.Table.{Table}
use Rattle.table.specs.Take.{fresh_table}
use Rattle.desk.proofs.Whole.{end_within}
use Rattle.stream.specs.Onward.{State, Unread, Open, Shut, Given, still, and_then, answer_of, open_of, wanted, is_shut, onward, closing, closed, each_from, at_once_from, at_once}
use Rattle.stream.proofs.Onward.{then_nothing, then_assoc, onward_append, shut_onward, kept_onward, ends_onward}
use Rattle.stream.proofs.InPlace.{answer_same, block_further}

-- ---- lines that are not all ended are kept

pub open_onward : (room : ℕ) (s : State) (log : List ℕ) → is_shut s ≡ false → lfs log < wanted s → onward room s nothing log ≡ still s (keep_all nothing log)
open_onward room s log o h =
    let k = open_kept (wanted s) log h in
    let g : Gathered = gather_of (wanted s) nothing log in
    let few : g.kept.lines < wanted s = omega (arith, gather_lines (wanted s) log, ap (λ (i : ℕ). lfs (take i log)) k.0, ap lfs (take_all (length log) log (omega arith))) in
    ap (onward room s nothing) (sym (ap (λ (i : ℕ). take i log) k.0 ∙ take_all (length log) log (omega arith)))
    ∙ kept_onward room s o nothing log few
    ∙ ap (still s) k.1

-- ---- block after block

each_none : (k room : ℕ) (t : Table) → each_from k room t [] ≡ still (Open t) nothing
each_none zero room t = refl
each_none (suc k) room t = refl

each_one : (k room : ℕ) (t : Table) (log : List ℕ) → 0 < length log → each_from (suc k) room t log ≡ and_then (answer_of room t log) (each_from k room (table_in t log room) (rest_of log))
each_one k room t log h =
    ap (λ (b : Bool). pick b (still (Open t) nothing) (and_then (answer_of room t log) (each_from k room (table_in t log room) (rest_of log)))) (ne_eqb (length log) 0 (λ z. omega arith))

-- the last block, whose fifth LF has not come
last_block : (k room : ℕ) (t : Table) (b : ℕ) (l : List ℕ) → lfs (b ∷ l) < 5 → closed room (onward room (Open t) nothing (b ∷ l)) ≡ each_from (suc k) room t (b ∷ l)
unfolding rest_of
last_block k room t b l h =
    let log : List ℕ = b ∷ l in
    ap (closed room) (open_onward room (Open t) log refl h)
    ∙ ap (λ (x : List ℕ). pick (eqb (length x) 0) (still (Open t) nothing) (answer_of room t x)) (kept_is log)
    ∙ ap (λ (z : Bool). pick z (still (Open t) nothing) (answer_of room t (cap 0 log))) (ne_eqb (length (cap 0 log)) 0 (λ z. omega (arith, cut_some b l)))
    ∙ answer_same room t (cap 0 log) log (cut_block log)
    ∙ sym (each_one k room t log (omega arith)
    ∙ ap (λ (x : List ℕ). and_then (answer_of room t log) (each_from k room (table_in t log room) x)) (lines_none 5 log h)
    ∙ ap (and_then (answer_of room t log)) (each_none k room (table_in t log room))
    ∙ then_nothing (answer_of room t log))

-- one block more, by what is known of the rest
each_more : (k room : ℕ) (t : Table) (log : List ℕ) → 0 < length log
    → (length (rest_of log) ≤ k → closed room (onward room (Open (table_in t log room)) nothing (rest_of log)) ≡ each_from k room (table_in t log room) (rest_of log))
    → length log ≤ suc k → closed room (onward room (Open t) nothing log) ≡ each_from (suc k) room t log
each_more k room t [] p rec h = absurd (omega arith)
each_more k room t (b ∷ l) p rec h =
    let log : List ℕ = b ∷ l in
    ⊎_elim
    (λ five.
    let x : Given = answer_of room t log in
    let y : Given = onward room (Open (table_in t log room)) nothing (rest_of log) in
    let s = rest_shorter log (omega arith) in
    ap (closed room) (block_further room t log five)
    ∙ then_assoc x y (closing room y.state y.kept)
    ∙ ap (and_then x) (rec (omega arith))
    ∙ sym (each_one k room t log (omega arith)))
    (λ few. last_block k room t b l few)
    (le_or_lt 5 (lfs log))

each_onward : (k room : ℕ) (t : Table) (log : List ℕ) → length log ≤ k → closed room (onward room (Open t) nothing log) ≡ each_from k room t log
each_onward zero room t log h = ⊎_elim
    (λ l. ap (λ (x : List ℕ). closed room (onward room (Open t) nothing x)) (empty log l))
    (λ l. absurd (omega arith))
    (le_or_lt (length log) 0)
  where
    empty : (x : List ℕ) → length x ≤ 0 → x ≡ []
    empty [] h = refl
    empty (b ∷ x) h = absurd (omega arith)
each_onward (suc k) room t log h = ⊎_elim
    (λ l.
    let e : log ≡ [] = empty log l in
    ap (λ (x : List ℕ). closed room (onward room (Open t) nothing x)) e ∙ ap (each_from (suc k) room t) (sym e))
    (λ l. each_more k room t log l (λ s. each_onward k room (table_in t log room) (rest_of log) s) h)
    (le_or_lt (length log) 0)
  where
    empty : (x : List ℕ) → length x ≤ 0 → x ≡ []
    empty [] h = refl
    empty (b ∷ x) h = absurd (omega arith)

-- ---- the whole log

opened_onward : (room : ℕ) (o : Result Sheet Refusal) (log : List ℕ) → closed room (and_then (open_of room o) (onward room (open_of room o).state (open_of room o).kept (sheet_end log))) ≡ at_once_from room o log
opened_onward room (Ok s) log = each_onward (length log) room (fresh_table s) (sheet_end log) (end_within log)
opened_onward room (Err why) log = ap (λ (x : Given). closed room (and_then (open_of room (Err why)) x)) (shut_onward room nothing (sheet_end log)) ∙ shut-closed (open_of room (Err why)) refl
  where
    shut-closed : (x : Given) → x ≡ open_of room (Err BadSheet) → closed room (and_then x (still Shut nothing)) ≡ x
    shut-closed x e = subst (λ (y : Given). closed room (and_then y (still Shut nothing)) ≡ y) (sym e)
        (then_assoc (open_of room (Err BadSheet)) (still Shut nothing) (still Shut nothing) ∙ then_nothing (open_of room (Err BadSheet)))

sheet_whole : (room : ℕ) (log : List ℕ) → sheet_lines ≤ lfs log → closed room (onward room Unread nothing log) ≡ at_once room log
unfolding at_once sheet_end opened_of
sheet_whole room log h =
    let g : Gathered = gather_of sheet_lines nothing log in
    let front : List ℕ = take g.used log in
    let all : sheet_lines ≤ lfs front = omega (arith, gather_lines sheet_lines log, (whole_kept (sheet_lines - 1) log h).0) in
    let reads : sheet_of g.kept.bytes ≡ sheet_of log =
    ap (λ (k : Kept). sheet_of k.bytes) (gather_keeps sheet_lines nothing log)
    ∙ ap sheet_of (kept_is front)
    ∙ cut_sheet front
    ∙ sym (front_sheet front (drop g.used log) all)
    ∙ ap sheet_of (take-append-drop g.used log) in
    let one : onward room Unread nothing front ≡ open_of room (opened_of log) =
    ends_onward room Unread refl nothing log (omega arith) (omega (arith, (whole_kept (sheet_lines - 1) log h).0)) ∙ ap (λ (o : Result Sheet Refusal). open_of room (lone_read o)) reads in
    ap (closed room)
    (ap (onward room Unread nothing) (sym (take-append-drop g.used log))
    ∙ onward_append room Unread nothing front (drop g.used log)
    ∙ ap (λ (x : Given). and_then x (onward room x.state x.kept (drop g.used log))) one
    ∙ ap (λ (l : List ℕ). and_then (open_of room (opened_of log)) (onward room (open_of room (opened_of log)).state (open_of room (opened_of log)).kept l)) (whole_kept (sheet_lines - 1) log h).1)
    ∙ opened_onward room (opened_of log) log

pub heard_at_once : (room : ℕ) (log : List ℕ) → closed room (onward room Unread nothing log) ≡ at_once room log
unfolding at_once opened_of
heard_at_once room log = ⊎_elim
    (λ h. sheet_whole room log h)
    (λ h. ap (closed room) (open_onward room Unread log refl h) ∙ bad-whole h)
    (le_or_lt sheet_lines (lfs log))
  where
    bad-whole : lfs log < sheet_lines → open_of room (Err BadSheet) ≡ at_once room log
    bad-whole h = ap (λ (o : Result Sheet Refusal). at_once_from room (lone_read o) log) (sym (sheet_open log h))
