-- `sum` meets its contract. The invariant: s is the sum of the numbers from place i on, each of 32 bits.
-- Assumes nothing.
use mathlib.Core.Path.{sym, ◌∙◌}
use native.Mathlib.Omega.{arith}
use borrow.Author.Rules.{rules}
use Rattle.laws.specs.Lists.{sum_of}
use Rattle.laws.proofs.Places.{last_start, last_turn, last_done}
use Rattle.try_pots.proofs.hand.sum.Goals as goal

pub loop-i-init : goal.loop-i-init
unfolding sum_of
loop-i-init c = (sym (last_start sum_of c.args.xs 10 (search rules)), omega arith)

pub loop-i-preserved : goal.loop-i-preserved
unfolding sum_of
loop-i-preserved c =
    let xs = c.args.xs in
    let i = c.loop-i.i in
    let t = last_turn sum_of xs i (search rules) (search rules) in
    (omega (arith, t, c.loop-i.invariant.0, c.wide-s.ensures.0), omega (arith, c.loop-i.invariant.1, c.wide-s.ensures.1))

pub returns : goal.returns
returns c = c.loop-i.invariant.0 ∙ last_done sum_of c.args.xs c.loop-i.i (search rules)
