-- `worth_given` meets its contract. The invariant: the worth of the rows below i, which is small.
-- Assumes nothing.
use Rattle.tray.proofs.Sums.{sum_turn, sum_done}
use Rattle.tray.specs.Proposal.{given, worth_given}
use lib.ListN.{length, get_or}
use native.Mathlib.Omega.{arith}
use mathlib.Core.Path.{refl, ap, ◌∙◌}
use Prim.Native.Nat.{◌*◌}
use borrow.Author.Rules.{rules}
use Rattle.tray.proofs.worth_given.Goals as goal

pub loop-i-init : goal.loop-i-init
loop-i-init c = (search rules, refl)

pub overflow_add-sum : goal.overflow_add-sum
overflow_add-sum c = record { fits = omega (arith, c.loop-i.invariant.0, c.requires.0, c.product-sum.ensures.1, c.requires.2 c.loop-i.i) }

pub loop-i-preserved : goal.loop-i-preserved
loop-i-preserved c = let w = c.args.worths.now in (
  omega (arith, c.loop-i.invariant.0, c.product-sum.ensures.1, c.requires.2 c.loop-i.i),
  sum_turn (λ k. given (length w) c.args.p.now c.args.s k * get_or w k 0) c.loop-i.i c.loop-i.sum c.product-sum.result c.loop-i.invariant.1
      (c.product-sum.ensures.0 ∙ ap (λ n. n * get_or w c.loop-i.i 0) c.given.ensures),
)

pub returns : goal.returns
unfolding worth_given
returns c = let w = c.args.worths.now in
    sum_done (λ k. given (length w) c.args.p.now c.args.s k * get_or w k 0) c.loop-i.i (length w) c.loop-i.sum (search rules) c.loop-i.invariant.1
