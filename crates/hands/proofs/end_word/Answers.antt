-- `hands::end_word` meets its contract. Assumes nothing.
use Rattle.hands.proofs.Ended.{ended_none, ended_kept, ended_full}
use Rattle.hands.proofs.end_word.Goals as goal

pub returns-in_default-clause-is : goal.returns-in_default-clause-is
returns-in_default-clause-is c = ended_none c.args.l _ c.in_default.is

pub returns-then-l-cards-clause-is : goal.returns-then-l-cards-clause-is
returns-then-l-cards-clause-is c = ended_kept c.args.l _ c.in-Some.word c.in-Some.is c.if-l-cards.true

pub returns-clause-is : goal.returns-clause-is
returns-clause-is c = ended_full c.args.l _ c.in-Some.word c.in-Some.is c.if-l-cards.false
