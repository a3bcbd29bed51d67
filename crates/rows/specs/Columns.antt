-- The rows in two columns of sixteen places, as the walks over lent rows keep them for the functions over two number slices. Assumes nothing.
use Rattle.std.specs.Prelude.{ℕ, zero, suc, List, ◌++◌, length, get_or, set, take, drop, replicate, leb}
use Rattle.laws.specs.Tests.{pick}
use Rattle.tray.specs.Proposal.{out_of_bounds, judged, counts_after, most_rows}
use Rattle.proposer.specs.Proposer.{proposing, list_after}
use Rattle.rows.specs.declared.Row.{Row}
use Rattle.rows.specs.declared.Columns.{Columns}
use Rattle.rows.specs.Rows.{no_row}

abbrev pub no_columns : Columns
no_columns = record { worths = replicate most_rows 0; counts = replicate most_rows 0 }

-- row r at place i; past the last place nothing is kept
abbrev pub with_row : Columns → Row → ℕ → Columns
with_row c r i = record { worths = set c.worths i r.worth; counts = set c.counts i r.count }

-- the first i rows
abbrev pub columns_to : ℕ → List Row → Columns
columns_to zero rows = no_columns
columns_to (suc i) rows = with_row (columns_to i rows) (get_or rows i no_row) i

-- an answer's code and the counts after it
pub record Counted : Type 0 where
  pub counts : List ℕ
  pub code : ℕ

-- the checker's answer for n rows, and the counts after it
abbrev pub settled_of : Columns → ℕ → List ℕ → List ℕ → Counted
settled_of c n paid p =
    pick (leb n most_rows)
    (record {
      counts = counts_after (judged (take n c.worths) (take n c.counts) paid p) (length paid) p (take n c.counts) ++ drop n c.counts;
      code = judged (take n c.worths) (take n c.counts) paid p;
    })
    (record { counts = c.counts; code = out_of_bounds })

-- row r with the count that stands at its place, if there is one
abbrev pub recount : List ℕ → ℕ → Row → Row
recount counts i r = record { worth = r.worth; count = get_or counts i r.count }

-- the proposer's answer for n rows, and its list
abbrev pub proposed_code : Columns → ℕ → List ℕ → ℕ → ℕ
proposed_code c n paid long = pick (leb n most_rows) (proposing (take n c.worths) (take n c.counts) paid long) out_of_bounds

abbrev pub proposed_list : ℕ → Columns → ℕ → List ℕ → List ℕ → List ℕ
proposed_list code c n paid old = list_after code (take n c.worths) (take n c.counts) paid old
