-- `answer_block` meets its contract.
use Rattle.desk.specs.Desk.{judge_block}
use Rattle.desk.proofs.Laws.{answered_is, none_answered}
use Rattle.desk.proofs.Room.{judged_closed}
use borrow.Author.Tests.{not-true, not-false}
use mathlib.Core.Path.{refl}
use Rattle.desk.proofs.answer_block.Goals as goal

pub returns-then-not-j : goal.returns-then-not-j
returns-then-not-j c = let r = none_answered c.args.table (judge_block c.args.table c.args.b) c.args.sheet.now c.judge_block-j.ensures.0 (not-true _ c.if-not-j.true) c.judge_block-j.ensures.1 in record { answer = r.0; bytes = r.1.0; sound = r.1.1 }

pub shown_of-s-requires : goal.shown_of-s-requires
shown_of-s-requires c =
    let a = c.args in
    let j = c.judge_block-j.ensures in
    (j.1, j.3, j.2, judged_closed a.table a.b j.0)

pub returns-in_default : goal.returns-in_default
returns-in_default c = let r = answered_is c.args.table (judge_block c.args.table c.args.b) c.args.sheet.now c.judge_block-j.ensures.0 (not-false _ c.if-not-j.false) c.shown_of-s.ensures.0 c.write_answer-w.ensures.answer c.write_answer-w.ensures.bytes (rw c.in_default.is refl) c.requires.0 in record { answer = r.0; bytes = r.1.0; sound = r.1.1 }

pub returns : goal.returns
returns c = let r = answered_is c.args.table (judge_block c.args.table c.args.b) c.args.sheet.now c.judge_block-j.ensures.0 (not-false _ c.if-not-j.false) c.shown_of-s.ensures.0 c.write_answer-w.ensures.answer c.write_answer-w.ensures.bytes (rw c.in-Ok.is refl) c.judge_block-j.ensures.1 in record { answer = r.0; bytes = r.1.0; sound = r.1.1 }
