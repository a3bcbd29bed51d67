-- `Notes::sums_now` meets its contract: the sums so far with the sittings behind the place are those of all.
use Rattle.std.proofs.Common.{◌≡◌, length, arith, rules}
use Rattle.notes.proofs.Laws.{sums_turn, sums_done}
use Rattle.notes.proofs.Notes.sums_now.Goals as goal

pub loop-i-preserved : goal.loop-i-preserved
loop-i-preserved c =
    let cs = c.args.cs.now in
    let l = c.loop-i in
    sums_turn _ cs l.s _ l.i (omega arith) c.sums_with-s.ensures l.invariant

pub returns : goal.returns
returns c =
    let l = c.loop-i in
    sums_done _ c.args.cs.now l.s l.i (omega arith) l.invariant
