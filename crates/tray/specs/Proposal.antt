-- The tray, a proposal, and when it is accepted. Request No. 13: "The dealer's tray has up to sixteen rows, each a chip's worth (1 to 100,000) and a
-- count (0 to 10,000). Any program may propose how many of each row go to each sitting the block lists, paid 0 too. Our checker accepts exactly those
-- proposals that pay every sitting exactly its `paid` and take no more from a row than it holds. Accepting lowers the rows by just that much; a refused
-- proposal (16) leaves each row as it was. Rows outside these bounds, too many, over ten sittings, or a proposal of wrong length get code 2 first. Rows
-- of equal worth count apart."
-- A tray is the list of its rows' worths and the list of their counts. What is paid is a list, a number for each listed sitting in the block's order. A
-- proposal is one list, sitting by sitting, and for each sitting row by row.
use Rattle.std.specs.Prelude.{ℕ, ◌+◌, ◌-◌, ◌*◌, Bool, List, length, get_or, eqb, leb, Result, Ok, Err}
use Rattle.paper.specs.declared.Refusal.{Refusal}
use Rattle.paper.specs.Refusals.{number_of}
use Rattle.laws.specs.Tests.{both, pick}
use Rattle.tray.specs.Counting.{sum_to, all_to, each_by}

-- the request's codes by name
abbrev pub accepted : ℕ
accepted = 0

abbrev pub out_of_bounds : ℕ
out_of_bounds = 2

abbrev pub refused : ℕ
refused = 16

-- the bounds
abbrev pub most_rows : ℕ
most_rows = 16

abbrev pub most_sittings : ℕ
most_sittings = 10

abbrev pub most_worth : ℕ
most_worth = 100_000

abbrev pub most_count : ℕ
most_count = 10_000

-- a row within its bounds
abbrev pub row_fits : ℕ → ℕ → Bool
row_fits worth count = both (both (leb 1 worth) (leb worth most_worth)) (leb count most_count)

-- a tray within its bounds: a worth and a count for each row
abbrev pub tray_fits : List ℕ → List ℕ → Bool
tray_fits worths counts =
    both (both (leb (length worths) most_rows) (eqb (length counts) (length worths))) (all_to (length worths) (λ i. row_fits (get_or worths i 0) (get_or counts i 0)))

-- what code 2 asks of a tray, the number of sittings and the proposal's length
unfoldable pub fits : List ℕ → List ℕ → ℕ → ℕ → Bool
fits worths counts sittings long = both (both (tray_fits worths counts) (leb sittings most_sittings)) (eqb long (sittings * length worths))

-- how many of row i a proposal over so many rows gives to sitting s
abbrev pub given : ℕ → List ℕ → ℕ → ℕ → ℕ
given rows p s i = get_or p (s * rows + i) 0

-- what sitting s is given in all
unfoldable pub worth_given : List ℕ → List ℕ → ℕ → ℕ
worth_given worths p s = sum_to (length worths) (λ i. given (length worths) p s i * get_or worths i 0)

-- what is taken from row i in all
unfoldable pub taken_from : ℕ → ℕ → List ℕ → ℕ → ℕ
taken_from rows sittings p i = sum_to sittings (λ s. given rows p s i)

-- every sitting is paid exactly its `paid`
unfoldable pub pays_all : List ℕ → List ℕ → List ℕ → Bool
pays_all worths paid p = all_to (length paid) (λ s. eqb (worth_given worths p s) (get_or paid s 0))

-- no more is taken from a row than it holds
unfoldable pub holds_all : List ℕ → ℕ → List ℕ → Bool
holds_all counts sittings p = all_to (length counts) (λ i. leb (taken_from (length counts) sittings p i) (get_or counts i 0))

-- the checker's answer
unfoldable pub judged : List ℕ → List ℕ → List ℕ → List ℕ → ℕ
judged worths counts paid p =
    pick (fits worths counts (length paid) (length p)) (pick (both (pays_all worths paid p) (holds_all counts (length paid) p)) accepted refused) out_of_bounds

-- an answer's code: 0 where it accepts, else the number of its refusal
abbrev pub code_of : Result (Unit {0}) Refusal → ℕ
code_of (Ok u) = accepted
code_of (Err e) = number_of e

-- the counts lowered by what is taken from each row
abbrev pub lowered : ℕ → List ℕ → List ℕ → List ℕ
lowered sittings p counts = each_by (λ i c. c - taken_from (length counts) sittings p i) counts

-- the counts after a proposal with this answer
unfoldable pub counts_after : ℕ → ℕ → List ℕ → List ℕ → List ℕ
counts_after code sittings p counts = pick (eqb code accepted) (lowered sittings p counts) counts
