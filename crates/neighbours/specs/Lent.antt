-- Request No. 7 with code 12: blocks of two tables that share a pool, each with the sheet that is lent for its answer, as `shared::answer_at` is called; and what one of the
-- tables gives to each of its own calls, oldest first. Assumes nothing.
use Rattle.std.specs.Prelude.{ℕ, Bool, List, [], ◌∷◌}
use Rattle.laws.specs.Tests.{pick}
use Rattle.writing.specs.AnswerSheet.{sheet_after, written_of}
use Rattle.table.specs.declared.table.Table.{Table}
use Rattle.pool.specs.declared.Pool.{Pool}
use Rattle.shared.specs.declared.SharedAnswer.{SharedAnswer}
use Rattle.shared.specs.Shared.{judged_at, bytes_at, shared_from}
use Rattle.pairs.specs.Alone.{same_table}
use Rattle.neighbours.specs.Blanked.{blanked}

-- a call at table 2, or at table 1
pub record Call : Type 0 where
  pub second : Bool
  pub log : List ℕ
  pub sheet : List ℕ

abbrev pub answered_at : Table → Pool → Call → SharedAnswer
answered_at t p x = shared_from t p (judged_at t x.log) (written_of (bytes_at t p x.log) x.sheet)

-- what a call gives, but for the pool: the code, 12 too, the table, how many bytes are written, and the sheet with the jackpot's number blanked
pub record Gives : Type 0 where
  pub code : ℕ
  pub table : Table
  pub written : ℕ
  pub sheet : List ℕ

abbrev pub gives_at : Table → Pool → Call → Gives
gives_at t p x = record {
  code = (answered_at t p x).code;
  table = (answered_at t p x).table;
  written = (answered_at t p x).written;
  sheet = blanked (sheet_after (bytes_at t p x.log) x.sheet);
}

-- the calls at one table
abbrev pub calls_at : Bool → List Call → List Call
calls_at second [] = []
calls_at second (x ∷ xs) = pick (same_table second x.second) (x ∷ calls_at second xs) (calls_at second xs)

-- what they give: `t` is that table, `u` the other
abbrev pub given_by : Bool → Table → Table → Pool → List Call → List Gives
given_by second t u p [] = []
given_by second t u p (x ∷ xs) =
    pick (same_table second x.second)
    (gives_at t p x ∷ given_by second (answered_at t p x).table u (answered_at t p x).pool xs)
    (given_by second t (answered_at u p x).table (answered_at u p x).pool xs)
