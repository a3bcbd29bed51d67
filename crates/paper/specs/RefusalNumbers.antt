-- Document 01, "Refusal numbers, in the order they are tested": each number by a name, and the first that applies. Assumes nothing.
use Rattle.std.specs.Prelude.{ℕ, zero, suc, Bool, List, [], ◌∷◌}
use Rattle.laws.specs.Tests.{pick}

-- taken
abbrev pub taken : ℕ
taken = 0

-- the block's lines, keys, number forms or the form of `do` are wrong
abbrev pub malformed : ℕ
malformed = 1

-- unknown kind, a number outside its range, a seat above `seats`, an unused number not 0
abbrev pub out_of_range : ℕ
out_of_range = 2

-- `n` is not the next
abbrev pub not_next : ℕ
not_next = 3

-- wrong moment by the table of entries (`void`: always)
abbrev pub wrong_moment : ℕ
wrong_moment = 4

-- the seat isn't as the table of entries or Opening asks
abbrev pub wrong_seat : ℕ
wrong_seat = 5

-- not that seat's turn
abbrev pub not_in_turn : ℕ
not_in_turn = 6

-- amount or act not allowed by Betting
abbrev pub not_allowed : ℕ
not_allowed = 7

-- a card already in this hand, or a = b in `hole`
abbrev pub card_twice : ℕ
card_twice = 8

-- `sit`: stacks plus chips in the open hand plus a exceed 100,000,000
abbrev pub too_many_chips : ℕ
too_many_chips = 9

-- `settle` with two live or more, and a live seat has no cards entered
abbrev pub cards_missing : ℕ
cards_missing = 10

-- a sheet line is missing, malformed or out of its range
abbrev pub bad_sheet : ℕ
bad_sheet = 11

-- the lent answer sheet is shorter than the block to be written; none of it changes
abbrev pub no_room : ℕ
no_room = 12

-- ---- the numbers of the change requests

-- No. 12: a correction where the whole corrected log, read afresh, refuses the new entry or a later one
abbrev pub not_right : ℕ
not_right = 13

-- No. 12: a correction at a table that shares a pool
abbrev pub shares_pool : ℕ
shares_pool = 14

-- No. 12: 4,096 entries are stored, or a lent buffer lacks room for the entry's record or row
abbrev pub not_stored : ℕ
not_stored = 15

-- No. 13: a proposal that does not pay exactly, or takes more from a row than it holds
abbrev pub not_exact : ℕ
not_exact = 16

-- No. 13: the proposer leaves something unpaid
abbrev pub unpaid : ℕ
unpaid = 17

-- ---- document 01's table

-- the table's first column, from the top
abbrev pub column : List ℕ
column =
    taken
    ∷ malformed
    ∷ out_of_range
    ∷ not_next
    ∷ wrong_moment
    ∷ wrong_seat
    ∷ not_in_turn
    ∷ not_allowed
    ∷ card_twice
    ∷ too_many_chips
    ∷ cards_missing
    ∷ bad_sheet
    ∷ no_room
    ∷ []

-- the number k, if it applies
abbrev pub when : Bool → ℕ → ℕ
when b k = pick b k taken

-- "The first that applies is given": the first of two
abbrev pub or_else : ℕ → ℕ → ℕ
or_else zero b = b
or_else (suc a) b = suc a
