-- Request No. 1, a log that comes in parts: however it is cut, what is copied of the parts and at the close is `fair_copy` of the whole log, and what is said about blocks that
-- are left out is `left_out` of it. For any parts, none and empty ones too, and a good sheet or a bad one. Assumes nothing.
use mathlib.Core.Path.{◌≡◌, refl, sym, ap, subst, ◌∙◌}
use mathlib.Core.List.{List, [], ◌∷◌, ◌++◌}
use mathlib.Core.Bool.{Bool, false}
use mathlib.Core.Logic.{⊎_elim}
use Prim.Native.Nat.{ℕ, zero, suc, ◌≤◌, ◌<◌}
use native.Mathlib.Omega.{arith}
use lib.ListN.{length, take, drop, take-append-drop}
use lib.Seq.{take_all}
use lib.Dec.{eqb}
use borrow.Author.Tests.{ne_eqb}
use Rattle.std.specs.Prelude.{Result, Ok, Err}
use Rattle.paper.specs.declared.refusal.Refusal.TheVariants.{BadSheet}
use Rattle.paper.specs.declared.refusal.Refusal.{Refusal}
use Rattle.laws.specs.Tests.{pick}
use Rattle.laws.proofs.Sums.{le_or_lt}
use Rattle.paper.specs.declared.Sheet.{Sheet}
use Rattle.text.specs.TableSheet.{sheet_lines, sheet_of, sheet_end}
use Rattle.text.proofs.Lines.{after_lines_no_longer}
use Rattle.blocks.specs.Block.{rest_of, block_of}
use Rattle.blocks.specs.declared.Block.{Block}
use Rattle.blocks.proofs.Blocks.{rest_shorter}
use Rattle.lines.specs.Kept.{Kept, nothing, keep_all, Gathered, gather_of}
use Rattle.lines.proofs.Cut.{cap, lfs, lines_none}
use Rattle.lines.proofs.Gathers.{gather_lines, open_kept}
use Rattle.lines.proofs.Whole.{cut_block, kept_is, cut_some, sheet_open, some_kept, block_reads, sheet_reads}
use Rattle.logs.specs.LogText.{sheet_text}
use Rattle.logs.specs.FairCopy.{form_code, block_code, form_copy, block_copy, copies_from, fair_from, fair_copy, next_number, note_of, notes_from, said_from, left_out}
use Rattle.copier.specs.Onward.{State, Unread, Open, Given, still, and_then, block_done, sheet_done, wanted, is_shut, onward, closing, closed, whole, parts_of}
use Rattle.copier.proofs.Onward.{then_nothing, then_assoc, onward_append, shut_onward, kept_onward, ends_onward}

-- ---- what is done with a block depends on the block alone
block_same : (s : Sheet) (n : ℕ) (x y : List ℕ) → block_of x ≡ block_of y → block_done s n x ≡ block_done s n y
unfolding block_copy block_code
block_same s n x y e =
    ap (λ (b : Block). record { state = Open s (next_number n); kept = nothing; copy = form_copy s b; notes = note_of (next_number n) (form_code s b) }) e

-- ---- lines that are not all ended are kept

open_onward : (s : State) (log : List ℕ) → is_shut s ≡ false → lfs log < wanted s → onward s nothing log ≡ still s (keep_all nothing log)
open_onward s log o h =
    let k = open_kept (wanted s) log h in
    let g : Gathered = gather_of (wanted s) nothing log in
    let few : g.kept.lines < wanted s = omega (arith, gather_lines (wanted s) log, ap (λ (i : ℕ). lfs (take i log)) k.0, ap lfs (take_all (length log) log (omega arith))) in
    ap (onward s nothing) (sym (ap (λ (i : ℕ). take i log) k.0 ∙ take_all (length log) log (omega arith)))
    ∙ kept_onward s o nothing log few
    ∙ ap (still s) k.1

-- ---- one block, and what follows

block_further : (s : Sheet) (n : ℕ) (log : List ℕ) → 5 ≤ lfs log
    → onward (Open s n) nothing log ≡ and_then (block_done s n log) (onward (Open s (next_number n)) nothing (rest_of log))
unfolding rest_of
block_further s n log h =
    let g : Gathered = gather_of 5 nothing log in
    let k = some_kept 5 log (omega arith) h in
    let one : onward (Open s n) nothing (take g.used log) ≡ block_done s n log =
    ends_onward (Open s n) refl nothing log (omega arith) (omega (arith, k.0)) ∙ block_same s n g.kept.bytes log (block_reads log h) in
    ap (onward (Open s n) nothing) (sym (take-append-drop g.used log))
    ∙ onward_append (Open s n) nothing (take g.used log) (drop g.used log)
    ∙ ap (λ (x : Given). and_then x (onward x.state x.kept (drop g.used log))) one
    ∙ ap (λ (l : List ℕ). and_then (block_done s n log) (onward (Open s (next_number n)) nothing l)) k.1

-- the last block, whose fifth LF has not come
last_block : (s : Sheet) (n b : ℕ) (l : List ℕ) → lfs (b ∷ l) < 5 → closed (onward (Open s n) nothing (b ∷ l)) ≡ block_done s n (b ∷ l)
last_block s n b l h =
    let log : List ℕ = b ∷ l in
    ap closed (open_onward (Open s n) log refl h)
    ∙ ap (λ (x : List ℕ). pick (eqb (length x) 0) (still (Open s n) nothing) (block_done s n x)) (kept_is log)
    ∙ ap (λ (z : Bool). pick z (still (Open s n) nothing) (block_done s n (cap 0 log))) (ne_eqb (length (cap 0 log)) 0 (λ z. omega (arith, cut_some b l)))
    ∙ block_same s n (cap 0 log) log (cut_block log)

-- ---- block after block

-- the copies and the notes of the blocks of a log, behind the first n
pub record Copies (k : ℕ) (s : Sheet) (n : ℕ) (log : List ℕ) (x : Given) : Type 0 where
  pub copy : x.copy ≡ copies_from k s log
  pub notes : x.notes ≡ notes_from k n s log

none : (k : ℕ) (s : Sheet) (n : ℕ) → Copies k s n [] (still (Open s n) nothing)
none zero s n = record { copy = refl; notes = refl }
none (suc k) s n = record { copy = refl; notes = refl }

-- one block more
more : (k : ℕ) (s : Sheet) (n : ℕ) (log : List ℕ) (x : Given) → 0 < length log → Copies k s (next_number n) (rest_of log) x → Copies (suc k) s n log (and_then (block_done s n log) x)
more k s n log x h c =
    let e : eqb (length log) 0 ≡ false = ne_eqb (length log) 0 (λ z. omega arith) in
    record {
      copy =
          ap (λ (l : List ℕ). block_copy s log ++ l) c.copy
          ∙ sym (ap (λ (b : Bool). pick b [] (block_copy s log ++ copies_from k s (rest_of log))) e);
      notes =
          ap (λ (l : List ℕ). note_of (next_number n) (block_code s log) ++ l) c.notes
          ∙ sym (ap (λ (b : Bool). pick b [] (note_of (next_number n) (block_code s log) ++ notes_from k (next_number n) s (rest_of log))) e);
    }

-- by what is known of the rest
each_more : (k : ℕ) (s : Sheet) (n : ℕ) (log : List ℕ) → 0 < length log
    → (length (rest_of log) ≤ k → Copies k s (next_number n) (rest_of log) (closed (onward (Open s (next_number n)) nothing (rest_of log))))
    → length log ≤ suc k → Copies (suc k) s n log (closed (onward (Open s n) nothing log))
unfolding rest_of
each_more k s n [] p rec h = absurd (omega arith)
each_more k s n (b ∷ l) p rec h =
    let log : List ℕ = b ∷ l in
    ⊎_elim
    (λ five.
    let x : Given = block_done s n log in
    let y : Given = onward (Open s (next_number n)) nothing (rest_of log) in
    let z = rest_shorter log (omega arith) in
    subst (Copies (suc k) s n log) (sym (ap closed (block_further s n log five) ∙ then_assoc x y (closing y.state y.kept)))
    (more k s n log (closed y) (omega arith) (rec (omega arith))))
    (λ few.
    let none_left : rest_of log ≡ [] = lines_none 5 log few in
    let last : closed (onward (Open s n) nothing log) ≡ and_then (block_done s n log) (still (Open s (next_number n)) nothing) =
    last_block s n b l few ∙ sym (then_nothing (block_done s n log)) in
    subst (Copies (suc k) s n log) (sym last)
    (more k s n log (still (Open s (next_number n)) nothing) (omega arith)
    (subst (λ (r : List ℕ). Copies k s (next_number n) r (still (Open s (next_number n)) nothing)) (sym none_left) (none k s (next_number n)))))
    (le_or_lt 5 (lfs log))

empty : (x : List ℕ) → length x ≤ 0 → x ≡ []
empty [] h = refl
empty (b ∷ x) h = absurd (omega arith)

each_onward : (k : ℕ) (s : Sheet) (n : ℕ) (log : List ℕ) → length log ≤ k → Copies k s n log (closed (onward (Open s n) nothing log))
each_onward zero s n log h = subst (λ (l : List ℕ). Copies zero s n l (closed (onward (Open s n) nothing l))) (sym (empty log h)) (none zero s n)
each_onward (suc k) s n log h = ⊎_elim
    (λ l. subst (λ (x : List ℕ). Copies (suc k) s n x (closed (onward (Open s n) nothing x))) (sym (empty log l)) (none (suc k) s n))
    (λ l. each_more k s n log l (λ r. each_onward k s (next_number n) (rest_of log) r) h)
    (le_or_lt (length log) 0)

-- ---- the whole log

-- what is copied of it, and what is said about what is left out
pub record Fair (log : List ℕ) (x : Given) : Type 0 where
  pub copy : x.copy ≡ fair_copy log
  pub notes : x.notes ≡ left_out log

abbrev FairBy : Result Sheet Refusal → List ℕ → Given → Type 0
FairBy o log x = (x.copy ≡ fair_from o log) × (x.notes ≡ said_from o log)

opened_onward : (o : Result Sheet Refusal) (log : List ℕ) → FairBy o log (closed (and_then (sheet_done o) (onward (sheet_done o).state (sheet_done o).kept (sheet_end log))))
unfolding sheet_end
opened_onward (Ok s) log =
    let y : Given = onward (Open s 0) nothing (sheet_end log) in
    let c : Copies (length log) s 0 (sheet_end log) (closed y) = each_onward (length log) s 0 (sheet_end log) (after_lines_no_longer sheet_lines log) in
    subst (FairBy (Ok s) log) (sym (then_assoc (sheet_done (Ok s)) y (closing y.state y.kept)))
    (ap (λ (l : List ℕ). sheet_text s ++ l) c.copy, c.notes)
opened_onward (Err why) log = subst (λ (x : Given). FairBy (Err why) log (closed (and_then (sheet_done (Err why)) x))) (sym (shut_onward nothing (sheet_end log))) (refl, refl)

fair_by : (log : List ℕ) (x : Given) → FairBy (sheet_of log) log x → Fair log x
unfolding fair_copy left_out
fair_by log x f = record { copy = f.0; notes = f.1 }

pub fair_heard : (log : List ℕ) → Fair log (closed (onward Unread nothing log))
unfolding sheet_end
fair_heard log = fair_by log (closed (onward Unread nothing log)) (⊎_elim
    (λ h.
    let g : Gathered = gather_of sheet_lines nothing log in
    let k = some_kept sheet_lines log (omega arith) h in
    let one : onward Unread nothing (take g.used log) ≡ sheet_done (sheet_of log) =
    ends_onward Unread refl nothing log (omega arith) (omega (arith, k.0)) ∙ ap sheet_done (sheet_reads log h) in
    let all : onward Unread nothing log ≡ and_then (sheet_done (sheet_of log)) (onward (sheet_done (sheet_of log)).state (sheet_done (sheet_of log)).kept (sheet_end log)) =
    ap (onward Unread nothing) (sym (take-append-drop g.used log))
    ∙ onward_append Unread nothing (take g.used log) (drop g.used log)
    ∙ ap (λ (x : Given). and_then x (onward x.state x.kept (drop g.used log))) one
    ∙ ap (λ (l : List ℕ). and_then (sheet_done (sheet_of log)) (onward (sheet_done (sheet_of log)).state (sheet_done (sheet_of log)).kept l)) k.1 in
    subst (λ (x : Given). FairBy (sheet_of log) log (closed x)) (sym all) (opened_onward (sheet_of log) log))
    (λ h.
    subst (λ (o : Result Sheet Refusal). FairBy o log (closed (onward Unread nothing log))) (sym (sheet_open log h))
    (subst (λ (x : Given). FairBy (Err BadSheet) log (closed x)) (sym (open_onward Unread log refl h)) (refl, refl)))
    (le_or_lt sheet_lines (lfs log)))

-- ---- the log in parts

parts_onward : (s : State) (k : Kept) (parts : List (List ℕ)) → parts_of s k parts ≡ onward s k (whole parts)
parts_onward s k [] = refl
parts_onward s k (p ∷ ps) =
    ap (and_then (onward s k p)) (parts_onward (onward s k p).state (onward s k p).kept ps) ∙ sym (onward_append s k p (whole ps))

pub fair_parts : (parts : List (List ℕ)) → Fair (whole parts) (closed (parts_of Unread nothing parts))
fair_parts parts = subst (λ (x : Given). Fair (whole parts) (closed x)) (sym (parts_onward Unread nothing parts)) (fair_heard (whole parts))
