-- Request No. 7, the program `pair`: two tables and their pool, and what is written to each piece of the input, oldest first. "For each block a line `table=K` and behind it
-- table K's answer." "Lines .. of no table: the first of a run of them is answered at once with `table=0` and n=0 code=1 turn=0 mark=0 back=0". "At the end of the
-- input, behind the last block: pool=.. as it stands and house=.., all parts that went to the house". "With --table K only K's answers are written". Assumes nothing.
use Rattle.std.specs.Prelude.{ℕ, ◌+◌, ◌≤◌, ◌≡◌, Bool, true, false, List, [], ◌∷◌, ◌++◌, length, get_or, set, eqb, Option, Some, None, Result, Ok, Err}
use Rattle.paper.specs.declared.Sheet.{Sheet}
use Rattle.paper.specs.declared.refusal.Refusal.{Refusal}
use Rattle.laws.specs.Tests.{pick}
use Rattle.paper.specs.Paper.{stand_in}
use Rattle.paper.specs.RefusalNumbers.{taken}
use Rattle.text.specs.Line.{number_line}
use Rattle.text.specs.Codes.{eleven}
use Rattle.writing.specs.AnswerSheet.{Wrote}
use Rattle.table.specs.declared.table.Table.{Table}
use Rattle.table.specs.Take.{fresh_table, Sound}
use Rattle.pool.specs.Jackpot.{most, fed_by, opened_with}
use Rattle.frames.specs.declared.Which.TheVariants.{First, Second}
use Rattle.frames.specs.declared.Due.{Due}
use Rattle.frames.specs.declared.Due.TheVariants as due
use Rattle.frames.specs.Frames.{table_key}
use Rattle.couple.specs.declared.Pair.{Pair}

-- ---- the tables: table 1 stands first

-- what is due is table 2's sheet, or a block of table 2
abbrev pub is_second : Due → Bool
is_second due.Pool = false
is_second (due.Sheet First) = false
is_second (due.Sheet Second) = true
is_second due.Table = false
is_second due.Stray = false
is_second (due.Block First) = false
is_second (due.Block Second) = true

abbrev pub place_of : Bool → ℕ
place_of second = pick second 1 0

abbrev pub table_at : List Table → Bool → Table
table_at ts second = get_or ts (place_of second) (fresh_table stand_in)

abbrev pub with_table : List Table → Bool → Table → List Table
with_table ts second t = set ts (place_of second) t

-- before the opening was read both are stand-ins
abbrev pub start_of : Pair
start_of = record { shut = false; tables = fresh_table stand_in ∷ fresh_table stand_in ∷ []; pool = record { held = 0 }; house = 0 }

-- all parts that went to the house; they fit nine digits (`pool`'s limit is never reached)
abbrev pub house_with : ℕ → ℕ → ℕ
house_with house part = fed_by house part

-- ---- what is written

-- the number of the table whose block is due, 0 for lines of no table
abbrev pub named : Due → ℕ
named due.Pool = 0
named (due.Sheet w) = 0
named due.Table = 0
named due.Stray = 0
named (due.Block First) = 1
named (due.Block Second) = 2

-- an answer of the table that is due, with its `table` line; or for that table's screen alone, without it
unfoldable pub shown_bytes : ℕ → Due → List ℕ → List ℕ
shown_bytes only d answer = pick (eqb only 0) (number_line table_key (named d) ++ answer) (pick (eqb only (named d)) answer [])

-- lines of no table: n=0 code=1 turn=0 mark=0 back=0
abbrev pub none_answer : List ℕ
none_answer =
    110 ∷ 61 ∷ 48 ∷ 10
    ∷ 99 ∷ 111 ∷ 100 ∷ 101 ∷ 61 ∷ 49 ∷ 10
    ∷ 116 ∷ 117 ∷ 114 ∷ 110 ∷ 61 ∷ 48 ∷ 10
    ∷ 109 ∷ 97 ∷ 114 ∷ 107 ∷ 61 ∷ 48 ∷ 10
    ∷ 98 ∷ 97 ∷ 99 ∷ 107 ∷ 61 ∷ 48 ∷ 10 ∷ []

abbrev pub pool_key : List ℕ
pool_key = 112 ∷ 111 ∷ 111 ∷ 108 ∷ []

abbrev pub house_key : List ℕ
house_key = 104 ∷ 111 ∷ 117 ∷ 115 ∷ 101 ∷ []

-- at the end of the input; nothing behind `code=11`, and nothing on a table's screen
unfoldable pub last_bytes : ℕ → Pair → List ℕ
last_bytes only p = pick p.shut [] (pick (eqb only 0) (number_line pool_key p.pool.held ++ number_line house_key p.house) [])

-- ---- the opening, and what a piece of the input leads to

-- the pair after some pieces, and what is written
pub record Given : Type 0 where
  pub pair : Pair
  pub bytes : List ℕ

abbrev pub still : Pair → Given
still p = record { pair = p; bytes = [] }

abbrev pub stray_done : ℕ → Pair → Given
stray_done only p = record { pair = p; bytes = shown_bytes only due.Stray none_answer }

-- "anything wrong in these nineteen: code=11 and the end"
abbrev pub refused : Pair → Given
refused p = record { pair = record { shut = true; tables = p.tables; pool = p.pool; house = p.house }; bytes = eleven }

-- "The pool, at opening too (else 11), never exceeds 999,999,999"
abbrev pub pool_done : Pair → Option ℕ → Given
pool_done p (Some v) = pick (eqb (opened_with v).code taken) (still (record { shut = p.shut; tables = p.tables; pool = (opened_with v).pool; house = p.house })) (refused p)
pool_done p None = refused p

abbrev pub sheet_done : Pair → Due → Result Sheet Refusal → Given
sheet_done p d (Ok s) = still (record { shut = p.shut; tables = with_table p.tables (is_second d) (fresh_table s); pool = p.pool; house = p.house })
sheet_done p d (Err why) = refused p

-- ---- what a call says

-- a `table` line, 16 bytes at most, and the longest answer, 560
abbrev pub room_most : ℕ
room_most = 576

pub record Gave (x : Given) (out out2 : List ℕ) (p : Pair) (written : ℕ) : Type 0 where
  pub pair : p ≡ x.pair
  pub wrote : Wrote x.bytes out out2 written

pub record Good (p : Pair) : Type 0 where
  pub two : length p.tables ≡ 2
  pub first : Sound (table_at p.tables false)
  pub second : Sound (table_at p.tables true)
  pub held : p.pool.held ≤ most
  pub house : p.house ≤ most
