-- `least_for` meets its contract: none where the right to raise is spent or the whole stack is not above the mark; else the lesser of a full lift and the whole stack.
use native.Mathlib.Omega.{arith}
use Rattle.seen.proofs.Laws.{least_spent, least_short, least_is}
use Rattle.seen.proofs.seat.least_for.Goals as goal

pub returns-then-c : goal.returns-then-c
returns-then-c c = least_spent c.args.p c.args.c c.if-c.true

pub returns-then-all-p : goal.returns-then-all-p
returns-then-all-p c = least_short c.args.p c.args.c c.if-c.false (omega (arith, c.round_of.ensures, c.if-all-p.true))

pub returns-then-full-all : goal.returns-then-full-all
returns-then-full-all c = let a = c.args in
    least_is a.p a.c c.if-c.false (omega (arith, c.round_of.ensures, c.if-all-p.false)) (omega (arith, c.round_of.ensures, c.sum-full.ensures, c.if-full-all.true))

pub returns : goal.returns
returns c = let a = c.args in
    least_is a.p a.c c.if-c.false (omega (arith, c.round_of.ensures, c.if-all-p.false)) (omega (arith, c.round_of.ensures, c.sum-full.ensures, c.if-full-all.false))
