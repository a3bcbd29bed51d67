-- Document 01, the entries `hole` and `board`, "a card already in this hand" (8), and when a new round opens. Assumes nothing.
use Rattle.std.specs.Prelude.{ℕ, ◌+◌, Bool, not, take, ltb, leb, eqb}
use Rattle.paper.specs.Paper.{wrong_moment, wrong_seat, card_twice, when, or_else}
use Rattle.laws.specs.Tests.{either, pick}
use Rattle.chairs.specs.Chairs.{count_of, want_of, has_card, is_full, held_of}
use Rattle.chairs.specs.Who.{Holding}
use Rattle.table.specs.State.{with_chair, with_card, seat_of}
use Rattle.table.specs.Betting.{live_hands, nobody_owes, new_round}
use Rattle.table.specs.declared.table.Table.{Table}

-- "a card already in this hand": on the board, or entered for a seat of this hand, folded or gone too
unfoldable pub in_this_hand : Table → ℕ → Bool
in_this_hand t k = either (has_card k (take t.board.count t.board.cards)) (not (eqb (count_of (want_of (Holding k)) t.chairs) 0))

-- hole: "a hand is open"; the seat is "live, no cards yet", or with four hole cards half of them (No. 5): "the second is refused with 8 on any repeat, a third with 5";
-- 8: "a card already in this hand, or a = b in `hole`"
unfoldable pub hole_code : Table → ℕ → ℕ → ℕ → ℕ
hole_code t s a b =
    or_else (when (not t.play.opened) wrong_moment)
    (or_else (when (either (not (seat_of t s).dealt.live) (is_full t.sheet.game (seat_of t s))) wrong_seat)
    (when (either (eqb a b) (either (in_this_hand t a) (in_this_hand t b))) card_twice))

unfoldable pub held_to : Table → ℕ → ℕ → ℕ → Table
held_to t s a b = with_chair t s (held_of (seat_of t s) a b)

-- board: "nobody owes, two live or more, under five board cards"
unfoldable pub board_code : Table → ℕ → ℕ
board_code t k =
    or_else (when (either (not t.play.opened) (either (not (nobody_owes t)) (either (ltb (live_hands t) 2) (leb 5 t.board.count)))) wrong_moment)
    (when (in_this_hand t k) card_twice)

-- "When three, four and five board cards lie, a new round opens"
unfoldable pub boarded_to : Table → ℕ → Table
boarded_to t k = pick (leb 3 (t.board.count + 1)) (new_round (with_card t k)) (with_card t k)
