-- `settle_all` meets its contract: in front of the place the accounts are settled, behind it they are still to come.
use Rattle.std.proofs.Common.{◌≡◌, length, arith, rules}
use Rattle.notes.proofs.Laws.{settle_turn, settle_done}
use Rattle.notes.proofs.settle_all.Goals as goal

pub loop-i-preserved : goal.loop-i-preserved
loop-i-preserved c =
    let s = c.args in
    let l = c.loop-i in
    let n : length s.cs ≡ 10 = search rules in
    let k : length s.paid ≡ 10 = search rules in
    record {
      size = search rules;
      settled = settle_turn l.all _ s.cs s.paid l.i (omega arith) (omega arith) (omega arith) c.settled_account-b.ensures l.invariant.settled;
    }

pub returns : goal.returns
returns c =
    let s = c.args in
    let l = c.loop-i in
    settle_done l.all _ s.cs s.paid l.i (omega arith) l.invariant.settled
