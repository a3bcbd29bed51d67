-- `tell` meets its contract.
use Rattle.reporter.proofs.Laws.{told}
use Rattle.reporter.proofs.tell.Goals as goal

pub returns : goal.returns
returns c =
    let s = c.args in
    let j = c.judge-j.ensures in
    told s.m s.t s.block.now c.read_block-b.ensures j.0 j.1 c.notes_after-notes.ensures
