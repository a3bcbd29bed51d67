-- `with_number` meets its contract, by a law for each return.
-- Assumes nothing.
use borrow.Author.Tests.{not-true, not-false}
use Rattle.try_pots.proofs.Scanned.{ended_none, ended_kept, ended_full}
use Rattle.try_pots.proofs.line.with_number.Goals as goal

pub returns-then-not-s : goal.returns-then-not-s
returns-then-not-s c = ended_none c.args.s _ (not-true _ c.if-not-s.true)

pub returns-then-nums-at : goal.returns-then-nums-at
returns-then-nums-at c = ended_full c.args.s _ (not-false _ c.if-not-s.false) c.if-nums-at.true c.spoilt.ensures

pub returns : goal.returns
returns c = ended_kept c.args.s _ (not-false _ c.if-not-s.false) c.if-nums-at.false
