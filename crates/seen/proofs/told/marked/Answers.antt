-- `marked` meets its contract: a seat that is not there is marked nowhere.
use mathlib.Core.Path.{◌≡◌, sym}
use lib.ListN.{length}
use native.Mathlib.Omega.{arith}
use Rattle.seen.proofs.Laws.{mark_in, mark_out}
use borrow.Author.Rules.{rules}
use Rattle.seen.proofs.told.marked.Goals as goal

pub returns-then-seat-gt10 : goal.returns-then-seat-gt10
returns-then-seat-gt10 c = let len : length c.args.dead ≡ 10 = search rules in
    sym (mark_out c.args.dead c.args.seat (omega (arith, len, c.if-seat-gt10.true)))

pub returns : goal.returns
returns c = sym (mark_in c.args.dead c.args.seat c.if-seat-eq0.false)
