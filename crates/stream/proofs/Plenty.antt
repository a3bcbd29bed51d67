-- With room for the longest answer what the whole log gives at once is the log's output. For any log. Assumes nothing.
use Rattle.std.specs.Prelude.{Result, Ok, Err}
use Rattle.paper.specs.declared.Sheet.{Sheet}
use Rattle.paper.specs.declared.refusal.Refusal.{Refusal}
use Rattle.desk.specs.Log.{opened_of, eleven, blocks_from, output_from, output_of, table_in}
use Rattle.desk.proofs.Opened.{opened_is}
use Prim.Native.Nat.{ℕ, zero, suc, ◌≤◌}
use mathlib.Core.Bool.{Bool, true, false}
use mathlib.Core.Path.{◌≡◌, refl, ap, ◌∙◌}
use mathlib.Core.List.{List, [], ◌++◌}
use native.Mathlib.Omega.{arith}
use lib.ListN.{length}
use lib.Dec.{eqb, leb}
use borrow.Author.Tests.{le-leb}
use Rattle.laws.specs.Tests.{pick}
use Rattle.blocks.specs.Block.{rest_of}
use Rattle.text.specs.TableSheet.{sheet_end}
use Rattle.table.specs.declared.table.Table.{Table}
use Rattle.table.specs.Take.{Sound, fresh_table}
use Rattle.table.proofs.Standing.{sound_fresh}
use Rattle.lines.specs.Kept.{nothing, kept_most}
use Rattle.desk.specs.Desk.{judged_of, block_bytes}
use Rattle.stream.specs.Onward.{Open, Given, still, and_then, answer_of, each_from, at_once_from, at_once}
use Rattle.stream.specs.Feeding.{longest_answer}
use Rattle.stream.specs.Parts.{served_of, whole}
use Rattle.stream.proofs.Longest.{longest}
use Rattle.stream.proofs.Enough.{judged_sound}
use Rattle.stream.proofs.Parts.{parts_whole}

each_plenty : (k room : ℕ) (t : Table) (log : List ℕ) → Sound t → longest_answer ≤ room → (each_from k room t log).bytes ≡ blocks_from k t log
each_plenty zero room t log h e = refl
each_plenty (suc k) room t log h e =
    go (eqb (length log) 0) (le-leb (length (block_bytes t log)) room (omega (arith, longest t log h))) (each_plenty k room (judged_of t log).table (rest_of log) (judged_sound t log h) e)
  where
    go : (b : Bool) → leb (length (block_bytes t log)) room ≡ true → (each_from k room (judged_of t log).table (rest_of log)).bytes ≡ blocks_from k (judged_of t log).table (rest_of log)
        → (pick b (still (Open t) nothing) (and_then (answer_of room t log) (each_from k room (table_in t log room) (rest_of log)))).bytes
        ≡ pick b [] (block_bytes t log ++ blocks_from k (judged_of t log).table (rest_of log))
    go true f rec = refl
    go false f rec =
        ap (λ (z : Bool). pick z (block_bytes t log) [] ++ (each_from k room (pick z (judged_of t log).table t) (rest_of log)).bytes) f
        ∙ ap (λ (l : List ℕ). block_bytes t log ++ l) rec

pub plenty : (room : ℕ) (log : List ℕ) → longest_answer ≤ room → (at_once room log).bytes ≡ output_of log
unfolding at_once output_of
plenty room log e = go (opened_of log) refl
  where
    go : (o : Result Sheet Refusal) → opened_of log ≡ o → (at_once_from room o log).bytes ≡ output_from o log
    go (Ok s) q = each_plenty (length log) room (fresh_table s) (sheet_end log) (sound_fresh s (opened_is log s q)) e
    go (Err why) q = ap (λ (z : Bool). pick z eleven []) (le-leb 8 room (omega arith))

-- so what is written for the parts of a log is the output of the whole
pub parts_output : (room : ℕ) (buf : List ℕ) (parts : List (List ℕ)) → longest_answer ≤ room → kept_most ≤ length buf → (served_of room buf parts).bytes ≡ output_of (whole parts)
parts_output room buf parts e n = ap (λ (x : Given). x.bytes) (parts_whole room buf parts n) ∙ plenty room (whole parts) e
