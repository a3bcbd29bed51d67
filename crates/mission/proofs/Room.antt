-- Change request No. 8: of all answers to a log, whatever its bytes, none has more than 27 lines or 540 bytes. Assumes nothing.
use Rattle.std.specs.Prelude.{Ok}
use Rattle.desk.specs.Log.{opened_of}
use Rattle.desk.proofs.Opened.{opened_is}
use Prim.Native.Nat.{ℕ, zero, suc, ◌≤◌, ◌<◌}
use mathlib.Core.Bool.{Bool, true, false}
use mathlib.Core.Path.{◌≡◌, refl, ap}
use mathlib.Core.List.{List, [], ◌∷◌}
use native.Mathlib.Omega.{arith}
use lib.ListN.{length}
use lib.Dec.{eqb}
use borrow.Author.Tests.{eqb-false}
use Rattle.laws.specs.Tests.{pick}
use Rattle.laws.specs.Lists.{All}
use Rattle.laws.specs.Often.{count}
use Rattle.paper.specs.declared.Sheet.{Sheet}
use Rattle.paper.specs.declared.Entry.{Entry}
use Rattle.blocks.specs.Block.{rest_of, block_of}
use Rattle.text.specs.TableSheet.{sheet_end}
use Rattle.table.specs.declared.table.Table.{Table}
use Rattle.table.specs.Take.{Sound, fresh_table}
use Rattle.table.proofs.Standing.{sound_fresh}
use Rattle.answers.specs.Answer.{longest}
use Rattle.answers.specs.Room.{most_lines}
use Rattle.desk.specs.Desk.{judged_of}
use Rattle.desk.proofs.Laws.{some_bytes}
use Rattle.desk.proofs.Room.{lines_most, bytes_most}
use Rattle.stream.proofs.Enough.{judged_sound}
use Rattle.mission.specs.Blocks.{adds, Given, shown_by, given_from, given_of}
use Rattle.mission.specs.Demands.{given_bytes}

-- the two numbers, of one answer
pub record Within (g : Given) : Type 0 where
  pub lines : count 10 (given_bytes g) ≤ most_lines
  pub bytes : length (given_bytes g) ≤ longest

from_within : (k : ℕ) (t : Table) (log : List ℕ) (es : List Entry) → Sound t → All Within (given_from k t log es)
from_within zero t log es h = tt
from_within (suc k) t log es h = go (eqb (length log) 0) refl (from_within k (judged_of t log).table (rest_of log) (adds t log es) (judged_sound t log h))
  where
    not_none : (length log ≡ 0 → ⊥) → 0 < length log
    not_none e = omega (arith, e)

    go : (b : Bool) → eqb (length log) 0 ≡ b → All Within (given_from k (judged_of t log).table (rest_of log) (adds t log es))
        → All Within (pick b [] (record { shown = shown_by (judged_of t log); block = block_of log; had = es; taken = adds t log es } ∷ given_from k (judged_of t log).table (rest_of log) (adds t log es)))
    go true z r = tt
    go false z r =
        let same = some_bytes t log (not_none (eqb-false (length log) 0 z)) in
        (record { lines = omega (arith, ap (count 10) same, lines_most t log h); bytes = omega (arith, ap length same, bytes_most t log h) }, r)

pub answers_within : (log : List ℕ) (s : Sheet) → opened_of log ≡ Ok s → All Within (given_of log)
unfolding given_of
answers_within log s e = rw e (from_within (length log) (fresh_table s) (sheet_end log) [] (sound_fresh s (opened_is log s e)))
