-- `answer_room` meets its contract: it says the length of the bytes that `answer_at` writes. Assumes nothing.
use borrow.Author.Tests.{not-true, not-false}
use Rattle.shared.proofs.Laws.{room_none, room_some, won_small}
use borrow.Author.Rules.{rules}
use Rattle.shared.proofs.answer_room.Goals as goal

pub returns-then-not-j : goal.returns-then-not-j
returns-then-not-j c = room_none _ _ _ c.judge_at-j.ensures.0 (not-true _ c.if-not-j.true)

pub shown_at-requires : goal.shown_at-requires
shown_at-requires c =
    let j = c.judge_at-j.ensures in
    (j.1, j.2, j.3, j.4, won_small _ _ (search rules) c.settled_pool-s.ensures)

pub returns : goal.returns
returns c =
    room_some _ _ _ c.judge_at-j.ensures.0 c.hand_of.ensures c.settled_pool-s.ensures (not-false _ c.if-not-j.false) c.shown_at.ensures.0 c.answer_len.ensures
