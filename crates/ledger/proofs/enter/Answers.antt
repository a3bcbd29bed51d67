-- `enter` meets its contract.
use Rattle.ledger.proofs.Closing.{entry_closed}
use Rattle.ledger.proofs.Holding.{entered_is}
use Rattle.ledger.proofs.enter.Goals as goal

pub put_answer-w-requires : goal.put_answer-w-requires
put_answer-w-requires c =
    let a = c.args in
    let j = c.judge_entry-j.ensures in
    (j.1, j.2, j.3, entry_closed a.b a.block _ _ j.0)

pub returns : goal.returns
returns c = let r = entered_is c.args.b c.args.block c.args.log.now c.args.index.now c.args.sheet.now c.requires.0 c.judge_entry-j.ensures.1 c.judge_entry-j.ensures.0 c.put_answer-w.ensures.answer c.put_answer-w.ensures.bytes c.was_taken-ok.ensures c.numbers_in.ensures c.keep-hands.ensures.hands c.keep-hands.ensures.log c.keep-hands.ensures.index c.told.ensures in record { answer = r.0; log = r.1.0; index = r.1.1.0; sheet = r.1.1.1.0; held = r.1.1.1.1 }
