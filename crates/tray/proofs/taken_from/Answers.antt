-- `taken_from` meets its contract. The invariant: the sum of the sittings below s, which is small.
-- Assumes nothing.
use Rattle.tray.proofs.Sums.{sum_turn, sum_done}
use Rattle.tray.specs.Proposal.{given, taken_from}
use native.Mathlib.Omega.{arith}
use mathlib.Core.Path.{refl, ◌∙◌}
use borrow.Author.Rules.{rules}
use Rattle.tray.proofs.taken_from.Goals as goal

pub loop-s-init : goal.loop-s-init
loop-s-init c = (search rules, refl)

pub overflow_add-sum : goal.overflow_add-sum
overflow_add-sum c = record { fits = omega (arith, c.loop-s.invariant.0, c.requires.1) }

pub loop-s-preserved : goal.loop-s-preserved
loop-s-preserved c = (omega (arith, c.loop-s.invariant.0), sum_turn (λ k. given c.args.rows c.args.p.now k c.args.i) c.loop-s.s c.loop-s.sum c.from-sum.result c.loop-s.invariant.1 (c.from-sum.ensures ∙ c.given.ensures))

pub returns : goal.returns
unfolding taken_from
returns c = sum_done (λ k. given c.args.rows c.args.p.now k c.args.i) c.loop-s.s c.args.sittings c.loop-s.sum (search rules) c.loop-s.invariant.1
