-- One theorem at the top: for every list of parts, whatever bytes they hold and wherever they are cut, the bytes that are handed to `write`, and that the mission's
-- demands 1, 2 and 3 hold of them. Assumes nothing.
use Rattle.std.specs.Prelude.{Result, Ok, Err}
use Rattle.paper.specs.declared.refusal.Refusal.{Refusal}
use Rattle.desk.specs.Log.{opened_of, output_of}
use Rattle.desk.proofs.Opened.{opened_is}
use Prim.Native.Nat.{ℕ, ◌≤◌}
use mathlib.Core.Path.{◌≡◌, refl, sym, subst}
use mathlib.Core.List.{List, [], ◌∷◌}
use lib.ListN.{length}
use Rattle.laws.specs.Lists.{All}
use Rattle.paper.specs.declared.Sheet.{Sheet}
use Rattle.table.specs.declared.table.Table.{Table}
use Rattle.history.specs.AsNoted.{AsNoted}
use Rattle.history.specs.Notebook.{notebook}
use Rattle.history.proofs.AsNoted.{as_noted}
use Rattle.history.proofs.Stacks.{stacks_are}
use Rattle.lines.specs.Kept.{kept_most}
use Rattle.stream.specs.Feeding.{longest_answer}
use Rattle.stream.specs.Parts.{served_of, whole}
use Rattle.mission.specs.Blocks.{Given, taken_in, given_of}
use Rattle.mission.specs.Demands.{Demand1, Demand2, Demand3, Right}
use Rattle.mission.specs.Box.{Answered, Box}
use Rattle.mission.proofs.Demands.{shown_right}
use Rattle.mission.proofs.Reached.{reached}
use Rattle.mission.proofs.Written.{written, written_bad}
use Rattle.stream.proofs.Plenty.{parts_output}

each : (P Q : Given → Type 0) → ((g : Given) → P g → Q g) → (gs : List Given) → All P gs → All Q gs
each P Q f [] a = tt
each P Q f (g ∷ gs) a = (f g a.0, each P Q f gs a.1)

-- of one log
log_answered : (log : List ℕ) (s : Sheet) → opened_of log ≡ Ok s → Answered s log (output_of log)
log_answered log s e =
    let all = shown_right log s e in
    let ok = opened_is log s e in
    record {
      answers = written log s e;
      demand_1 = each (Right s) (Demand1 s) (λ g r. r.one) (given_of log) all;
      demand_2 = each (Right s) (Demand2 s) (λ g r. r.two) (given_of log) all;
      demand_3 = each (Right s) (Demand3 s) (λ g r. r.three) (given_of log) all;
      table = λ k. let r = reached s k log in subst (λ (t : Table). AsNoted (notebook s (taken_in k s log)) t) (sym r.0) (as_noted s ok (taken_in k s log) r.1);
      stacks = λ k z. stacks_are s ok (taken_in k s log) (reached s k log).1 z;
    }

pub log_box : (log : List ℕ) → Box (opened_of log) log (output_of log)
log_box log = go (opened_of log) refl
  where
    go : (o : Result Sheet Refusal) → opened_of log ≡ o → Box o log (output_of log)
    go (Ok s) e = log_answered log s e
    go (Err why) e = written_bad log e

-- of its parts, any number of them, none and empty ones too: what is handed to `write` where each call of `feed` and the close are lent room for the longest answer
pub the_box : (room : ℕ) (buf : List ℕ) (parts : List (List ℕ)) → longest_answer ≤ room → kept_most ≤ length buf
    → Box (opened_of (whole parts)) (whole parts) (served_of room buf parts).bytes
the_box room buf parts e n = subst (Box (opened_of (whole parts)) (whole parts)) (sym (parts_output room buf parts e n)) (log_box (whole parts))
