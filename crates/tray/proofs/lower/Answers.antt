-- `lower` meets its contract. The invariant: the counts of the rows below i are lowered.
-- Assumes nothing.
use Prim.Native.Nat.{◌-◌}
use mathlib.Core.Path.{refl, ap, ◌∙◌}
use native.Mathlib.Omega.{arith}
use lib.ListN.{length, get_or}
use Rattle.tray.specs.Proposal.{taken_from}
use Rattle.tray.proofs.Front.{front_long, each_turn, each_done}
use borrow.Author.Rules.{rules}
use Rattle.tray.proofs.lower.Goals as goal

pub loop-i-init : goal.loop-i-init
loop-i-init c = refl

pub bounds-counts-i : goal.bounds-counts-i
bounds-counts-i c = omega (arith, ap length c.loop-i.invariant, front_long c.loop-i.i (λ k n. n - taken_from (length c.args.counts.now) c.args.sittings c.args.p.now k) c.args.counts.now)

pub loop-i-preserved : goal.loop-i-preserved
loop-i-preserved c = let k = c.args.counts.now in
    let i = c.loop-i.i in
    each_turn 0 (λ j n. n - taken_from (length k) c.args.sittings c.args.p.now j) k c.loop-i.counts i c.less.result (search rules) c.loop-i.invariant
    (c.less.ensures ∙ ap (λ n. get_or c.loop-i.counts i 0 - n) c.taken_from.ensures)

pub shape_of-counts : goal.shape_of-counts
shape_of-counts c = ap length c.loop-i.invariant ∙ front_long c.loop-i.i (λ k n. n - taken_from (length c.args.counts.now) c.args.sittings c.args.p.now k) c.args.counts.now

pub returns : goal.returns
returns c = let k = c.args.counts.now in
    each_done (λ j n. n - taken_from (length k) c.args.sittings c.args.p.now j) k c.loop-i.counts c.loop-i.i (search rules) c.loop-i.invariant
