-- `rounds::answering::answer` meets its contract. Assumes nothing.
use Rattle.rounds.proofs.Lengths.{answer_good, answer_bad}
use Rattle.rounds.proofs.answering.answer.Goals as goal

pub put_outcome-requires : goal.put_outcome-requires
put_outcome-requires c = (c.judge.ensures.1, c.requires)

pub returns-in-Some : goal.returns-in-Some
returns-in-Some c =
    let r = rw c.in-Some.is at c.read_numbers.ensures in
    (rw (answer_good c.args.block.now r.0 r.1 c.judge.ensures.0) c.put_outcome.ensures.0, c.put_outcome.ensures.1)

pub returns-in-None : goal.returns-in-None
returns-in-None c =
    let r = rw c.in-None.is at c.read_numbers.ensures in
    (rw (answer_bad c.args.block.now r) c.put_outcome-in-None.ensures.0, c.put_outcome-in-None.ensures.1)
