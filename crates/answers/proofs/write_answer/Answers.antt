-- `answers::write_answer` meets its contract: where there is no room nothing is written, else the whole block.
-- Assumes nothing.
use mathlib.Core.Path.{sym, ◌∙◌}
use borrow.Author.Tests.{leb-true, leb-false}
use Rattle.answers.specs.Answer.{answer_bytes}
use Rattle.writing.proofs.Sheets.{no_room, with_room}
use Rattle.answers.proofs.write_answer.Goals as goal

pub returns-then-not-has_room : goal.returns-then-not-has_room
returns-then-not-has_room c =
    let a = c.args in
    let r = no_room (answer_bytes a.s) a.sheet.now (leb-false _ _ (sym c.has_room.ensures ∙ c.if-not-has_room.true)) in record { answer = r.0; bytes = r.1 }

pub put_answer-requires : goal.put_answer-requires
put_answer-requires c =
    (c.requires, leb-true _ _ (sym c.has_room.ensures ∙ c.if-not-has_room.false))

pub returns : goal.returns
returns c =
    let r = with_room (leb-true _ _ (sym c.has_room.ensures ∙ c.if-not-has_room.false))
    c.put_answer.ensures in record { answer = r.0; bytes = r.1 }
