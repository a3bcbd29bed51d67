-- `correct` meets its contract.
use Rattle.ledger.proofs.Closing.{right_closed}
use Rattle.ledger.proofs.Holding.{righted_is}
use Rattle.text.proofs.Parts.{part_is}
use Rattle.ledger.proofs.correct.Goals as goal

pub put_answer-w-requires : goal.put_answer-w-requires
put_answer-w-requires c =
    let a = c.args in
    let j = c.judge_right-j.ensures in
    (j.1, j.2, j.3, right_closed a.b.table a.shared a.r _ j.0)

pub rewrite-requires : goal.rewrite-requires
rewrite-requires c = (c.requires.0.sheet, c.requires.0.sound.taken)

pub returns : goal.returns
returns c = let r = righted_is c.args.b c.args.shared c.args.r c.args.log.now c.args.index.now c.args.sheet.now c.requires.0 c.judge_right-j.ensures.1 (part_is 0 _) c.judge_right-j.ensures.0 c.put_answer-w.ensures.answer c.put_answer-w.ensures.bytes c.was_taken-ok.ensures c.unwrap_or.ensures c.numbers_in.ensures c.rewrite.ensures.log c.rewrite.ensures.index c.told.ensures in record { answer = r.0; log = r.1.0; index = r.1.1.0; sheet = r.1.1.1.0; held = r.1.1.1.1 }
