-- Document 01, "Opening", sentence by sentence, and the entry `hand`. Assumes nothing.
use Rattle.std.specs.Prelude.{ℕ, Bool, true, not, map, ltb, eqb}
use Rattle.paper.specs.Paper.{wrong_moment, wrong_seat, when, or_else}
use Rattle.laws.specs.Tests.{both, either}
use Rattle.chairs.specs.Chairs.{is_dealt_in, count_of, want_of, first_of, clockwise, sweep_of, paid_of}
use Rattle.chairs.specs.Who.{Chips}
use Rattle.chairs.specs.Sweep.{Deal}
use Rattle.table.specs.State.{with_play, with_chairs, with_chair, with_turn, seat_of}
use Rattle.table.specs.Betting.{first_owing}
use Rattle.table.specs.declared.table.Table.{Table}

-- "Dealt in is every seat with at least one chip." The first such seat clockwise after s; 0 where there is none
unfoldable pub next_dealt_in : Table → ℕ → ℕ
next_dealt_in t s = first_of (want_of Chips) t.chairs (clockwise t.sheet.seats s)

-- "The puck seat must be dealt in; after a first hand it must be the first dealt-in seat clockwise (rising number, wrapping) after the last hand's puck."
unfoldable pub is_puck : Table → ℕ → Bool
is_puck t s = both (is_dealt_in (seat_of t s)) (either (eqb t.play.puck 0) (eqb (next_dealt_in t t.play.puck) s))

-- hand: "no hand, and two seats or more hold chips"
unfoldable pub hand_code : Table → ℕ → ℕ
hand_code t s =
    or_else (when (either t.play.opened (ltb (count_of (want_of Chips) t.chairs) 2)) wrong_moment) (when (not (is_puck t s)) wrong_seat)

-- seat s posts a blind of a, "at most its stack"
unfoldable pub posted_to : Table → ℕ → ℕ → Table
posted_to t s a = with_chair t s (paid_of (seat_of t s) a)

-- "The puck sitter posts `small`, the next dealt-in seat posts `big`, each at most its stack."
abbrev pub blinds_posted : Table → ℕ → Table
blinds_posted t s = posted_to (posted_to (with_chairs t (map (sweep_of Deal) t.chairs)) s t.sheet.small) (next_dealt_in t s) t.sheet.big

-- "The mark is `big` even if posted short; the lift is `big`."
abbrev pub with_hand : Table → ℕ → Table
with_hand t s = with_play t (record { opened = true; puck = s; mark = t.sheet.big; lift = t.sheet.big; turn = 0 })

-- "First turn: first owing seat after the big blind."
unfoldable pub opened_to : Table → ℕ → Table
opened_to t s = with_turn (with_hand (blinds_posted t s) s) (first_owing (with_hand (blinds_posted t s) s) (next_dealt_in t s))
