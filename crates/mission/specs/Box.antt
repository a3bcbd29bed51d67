-- The whole way: from the bytes of a log to what is written for it, and what the mission demands of that. Assumes nothing.
use Rattle.std.specs.Prelude.{ℕ, ◌≡◌, List, Result, Ok, Err}
use Rattle.paper.specs.declared.refusal.Refusal.{Refusal}
use Rattle.laws.specs.Lists.{All}
use Rattle.paper.specs.declared.Sheet.{Sheet}
use Rattle.answers.specs.Answer.{joined}
use Rattle.desk.specs.Log.{eleven}
use Rattle.history.specs.AsNoted.{AsNoted}
use Rattle.history.specs.Notebook.{notebook}
use Rattle.history.specs.Stacks.{Balanced}
use Rattle.mission.specs.Blocks.{table_behind, taken_in, given_of}
use Rattle.mission.specs.Demands.{given_bytes, Demand1, Demand2, Demand3}

-- with a good sheet: the answers to the blocks, one behind the other and nothing else, and of each of them the three demands. Behind any number of blocks the
-- table says what the notebook of the entries taken by then says, and every sitting's chips are accounted for
pub record Answered (sheet : Sheet) (log bytes : List ℕ) : Type 0 where
  pub answers : bytes ≡ joined given_bytes (given_of log)
  pub demand_1 : All (Demand1 sheet) (given_of log)
  pub demand_2 : All (Demand2 sheet) (given_of log)
  pub demand_3 : All (Demand3 sheet) (given_of log)
  pub table : (k : ℕ) → AsNoted (notebook sheet (taken_in k sheet log)) (table_behind k sheet log)
  pub stacks : (k s : ℕ) → Balanced sheet (taken_in k sheet log) s

-- with a bad one `code=11` and nothing else
abbrev pub Box : Result Sheet Refusal → List ℕ → List ℕ → Type 0
Box (Ok s) log bytes = Answered s log bytes
Box (Err why) log bytes = bytes ≡ eleven
