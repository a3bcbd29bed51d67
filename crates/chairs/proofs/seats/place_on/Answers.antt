-- By the two cases of the wrap.
use borrow.Author.Rules.{rules}
use mathlib.Core.Path.{sym}
use native.Mathlib.Omega.{arith}
use Rattle.chairs.proofs.Clockwise.{clock_before, clock_wrapped}
use Rattle.chairs.proofs.seats.place_on.Goals as goal

pub returns-then-at-seats : goal.returns-then-at-seats
returns-then-at-seats c =
    let a = c.args in
    (sym (clock_before a.seats a.s a.k (search rules)), search rules)

pub returns-else-at-seats : goal.returns-else-at-seats
returns-else-at-seats c =
    let a = c.args in
    (sym (clock_wrapped a.seats a.s a.k (search rules) (search rules) (search rules)), omega arith)
