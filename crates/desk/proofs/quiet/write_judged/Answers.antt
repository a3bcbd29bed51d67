-- `write_judged` meets its contract: where there was no block nothing is written.
use borrow.Author.Tests.{not-true, not-false}
use Rattle.desk.proofs.SamePots.{none_written, shown_written}
use Rattle.desk.proofs.quiet.write_judged.Goals as goal

pub returns-then-not-j : goal.returns-then-not-j
returns-then-not-j c = let r = none_written c.args.j c.args.sheet.now (not-true _ c.if-not-j.true) in record { answer = r.0; bytes = r.1 }

pub returns : goal.returns
returns c = let r = shown_written c.args.j c.args.sheet.now (not-false _ c.if-not-j.false) c.shown_with-s.ensures.0 c.write_answer.ensures.answer c.write_answer.ensures.bytes in record { answer = r.0; bytes = r.1 }
