-- The tray as a list of rows, each a chip's worth and a count (request No. 13): the checker and the proposer over rows are those over the rows' worths and
-- counts, and where a proposal is accepted each row is lowered by just what it takes. Assumes nothing.
use Rattle.std.specs.Prelude.{ℕ, ◌-◌, List, map, length, eqb}
use Rattle.laws.specs.Tests.{pick}
use Rattle.tray.specs.Counting.{each_by}
use Rattle.tray.specs.Proposal.{accepted, judged, taken_from}
use Rattle.proposer.specs.Proposer.{proposing, list_after}
use Rattle.rows.specs.declared.Row.{Row}

-- the row that stands past the end of a list
abbrev pub no_row : Row
no_row = record { worth = 0; count = 0 }

abbrev pub worths_of : List Row → List ℕ
worths_of rows = map (λ (r : Row). r.worth) rows

abbrev pub counts_of : List Row → List ℕ
counts_of rows = map (λ (r : Row). r.count) rows

-- a row with its count lowered by k; the subtraction stops at 0
abbrev pub lower : Row → ℕ → Row
lower r k = record { worth = r.worth; count = r.count - k }

-- the checker's answer
unfoldable pub judged_rows : List Row → List ℕ → List ℕ → ℕ
judged_rows rows paid p = judged (worths_of rows) (counts_of rows) paid p

-- each row lowered by what a proposal for so many sittings takes from it
abbrev pub lower_all : ℕ → List ℕ → List Row → List Row
lower_all sittings p rows = each_by (λ i r. lower r (taken_from (length rows) sittings p i)) rows

-- the rows after a proposal with this answer
unfoldable pub rows_after : ℕ → ℕ → List ℕ → List Row → List Row
rows_after code sittings p rows = pick (eqb code accepted) (lower_all sittings p rows) rows

-- the proposer's answer, where the lent list is so long, and the lent list afterwards
unfoldable pub proposing_rows : List Row → List ℕ → ℕ → ℕ
proposing_rows rows paid long = proposing (worths_of rows) (counts_of rows) paid long

unfoldable pub list_of : ℕ → List Row → List ℕ → List ℕ → List ℕ
list_of code rows paid old = list_after code (worths_of rows) (counts_of rows) paid old
