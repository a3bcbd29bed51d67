-- `desk::answer_room` meets its contract: it says the length of the bytes that `desk::answer` writes. Assumes nothing.
use Rattle.desk.proofs.Room.{log_closed, none_said, some_said}
use borrow.Author.Tests.{not-true, not-false}
use Rattle.desk.proofs.answer_room.Goals as goal

pub returns-then-not-j : goal.returns-then-not-j
returns-then-not-j c =
    let a = c.args in
    none_said a.t a.log.now c.judge-j.ensures.0 (not-true _ c.if-not-j.true)

pub shown_of-requires : goal.shown_of-requires
shown_of-requires c =
    let a = c.args in
    let j = c.judge-j.ensures in
    (j.1, j.3, j.2, log_closed a.t a.log.now j.0)

pub returns : goal.returns
returns c =
    let a = c.args in
    some_said a.t a.log.now c.judge-j.ensures.0 (not-false _ c.if-not-j.false)
    c.shown_of.ensures.0 c.answer_len.ensures
