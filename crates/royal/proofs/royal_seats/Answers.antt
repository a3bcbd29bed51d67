-- The invariant: what is counted so far and what the rest counts make the whole count. Assumes nothing.
use borrow.Author.Rules.{rules}
use mathlib.Core.Path.{◌≡◌, ap}
use native.Mathlib.Omega.{arith}
use lib.ListN.{length}
use Rattle.laws.specs.Tests.{one}
use Rattle.chairs.proofs.Laws.{unread, count_step}
use Rattle.chairs.proofs.Above.{bool_one, bool_small}
use Rattle.royal.specs.Royal.{holds_royal, royal_seats}
use Rattle.royal.proofs.Laws.{count_done}
use Rattle.royal.proofs.royal_seats.Goals as goal

pub holds_royal-requires : goal.holds_royal-requires
holds_royal-requires c = c.requires

pub overflow_add-n : goal.overflow_add-n
overflow_add-n c = omega (arith, c.from-n.ensures, bool_small c.holds_royal.result)

pub loop-c-preserved : goal.loop-c-preserved
loop-c-preserved c =
    let a = c.args in
    let p = holds_royal a.game a.b in
    let i = c.loop-c.c-index in
    let r = c.holds_royal.result in
    let len : length a.cs ≡ 10 = search rules in
    let st = count_step p a.cs i unread (omega arith) in
    (omega (arith, c.from-n.ensures, bool_small r), omega (arith, c.from-n.ensures, bool_one r, ap one c.holds_royal.ensures, st))

pub returns : goal.returns
unfolding royal_seats
returns c =
    let a = c.args in
    let p = holds_royal a.game a.b in
    let len : length a.cs ≡ 10 = search rules in
    omega (arith, count_done p a.cs c.loop-c.c-index (omega arith))
