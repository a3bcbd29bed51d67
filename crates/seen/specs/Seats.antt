-- A seat in a word, and the least wager of the seat in turn. Assumes nothing.
use Rattle.std.specs.Prelude.{ℕ, ◌+◌, min, Bool, ltb}
use Rattle.laws.specs.Tests.{pick, both}
use Rattle.chairs.specs.Chairs.{is_here, round_of, chair_at}
use Rattle.chairs.specs.declared.Chair.{Chair}
use Rattle.table.specs.Betting.{may_raise}
use Rattle.table.specs.declared.table.Play.{Play}
use Rattle.table.specs.declared.table.Table.{Table}

-- ---- the words, by their places in the screen's table of them

abbrev pub empty : ℕ
empty = 0

abbrev pub left : ℕ
left = 1

abbrev pub waits : ℕ
waits = 2

abbrev pub no_chips : ℕ
no_chips = 3

abbrev pub live : ℕ
live = 4

abbrev pub all_in : ℕ
all_in = 5

abbrev pub folded : ℕ
folded = 6

abbrev pub dead : ℕ
dead = 7

-- a sitting that was dealt in and is still there: live, with or without chips behind; or its hand was killed (as the dealer's entries tell), else folded
abbrev pub playing : Bool → Chair → ℕ
playing killed c = pick c.dealt.live (pick (ltb 0 c.stack) live all_in) (pick killed dead folded)

-- nobody who was dealt in sits here: a sitter waits for the next hand, where he has chips; an empty seat's sitting has left the open hand, or there was none
abbrev pub aside : Chair → ℕ
aside c = pick (ltb 0 c.sitting) (pick (ltb 0 c.stack) waits no_chips) (pick (ltb 0 c.dealt.sitting) left empty)

unfoldable pub word_of : Bool → Chair → ℕ
word_of killed c = pick (is_here c) (playing killed c) (aside c)

-- Betting, "wager to a: a is above the mark; a minus the seat's round total is at most its stack; and either a is at least mark plus lift, or the whole stack
-- goes in", and the seat has its right to raise: the least such a is mark plus lift, or the whole stack where that is less and above the mark
unfoldable pub least_for : Play → Chair → ℕ
least_for p c = pick (both (may_raise c) (ltb p.mark (round_of c + c.stack))) (min (p.mark + p.lift) (round_of c + c.stack)) 0

-- of the seat in turn; 0 where there is none
unfoldable pub least_wager : Table → ℕ
least_wager t = least_for t.play (chair_at t.chairs t.play.turn)
