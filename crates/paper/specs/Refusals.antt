-- Document 01, "Refusal numbers": the number of each reason for a refusal. Assumes nothing.
use Rattle.std.specs.Prelude.{ℕ}
use Rattle.paper.specs.RefusalNumbers.{malformed, out_of_range, not_next, wrong_moment, wrong_seat, not_in_turn, not_allowed, card_twice, too_many_chips, cards_missing, bad_sheet, no_room, not_right, shares_pool, not_stored, not_exact, unpaid}
use Rattle.paper.specs.declared.refusal.Refusal.{Refusal}
use Rattle.paper.specs.declared.refusal.Refusal.TheVariants.{Malformed, OutOfRange, NotNext, WrongMoment, WrongSeat, NotInTurn, NotAllowed, CardTwice, TooManyChips, CardsMissing, BadSheet, NoRoom, NotRight, SharesPool, NotStored, NotExact, Unpaid}

abbrev pub number_of : Refusal → ℕ
number_of Malformed = malformed
number_of OutOfRange = out_of_range
number_of NotNext = not_next
number_of WrongMoment = wrong_moment
number_of WrongSeat = wrong_seat
number_of NotInTurn = not_in_turn
number_of NotAllowed = not_allowed
number_of CardTwice = card_twice
number_of TooManyChips = too_many_chips
number_of CardsMissing = cards_missing
number_of BadSheet = bad_sheet
number_of NoRoom = no_room
number_of NotRight = not_right
number_of SharesPool = shares_pool
number_of NotStored = not_stored
number_of NotExact = not_exact
number_of Unpaid = unpaid
