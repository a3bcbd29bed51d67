-- `chairs_in` meets its contract.
use Rattle.text.proofs.Parts.{part_is}
use Rattle.packed.specs.Layout.{chair_in, chairs_in}
use Rattle.packed.proofs.Read.{chairs_turn, chairs_done}
use lib.ListN.{length-set}
use mathlib.Core.Path.{refl, ap, ◌∙◌}
use Prim.Native.Nat.{◌*◌}
use native.Mathlib.Omega.{arith}
use borrow.Author.Rules.{rules}
use Rattle.packed.proofs.chairs_in.Goals as goal

pub loop-i-init : goal.loop-i-init
loop-i-init c = (search rules, refl)

pub loop-i-preserved : goal.loop-i-preserved
loop-i-preserved c = (simp length-set c.loop-i.invariant.0, chairs_turn 10 c.loop-i.i c.args.b.now c.loop-i.cs (chairs_in 10 c.args.b.now) (omega arith) (omega arith) (c.chair_in-c.ensures ∙ ap chair_in (part_is (28 * c.loop-i.i) c.args.b.now)) c.loop-i.invariant.1)

pub returns : goal.returns
returns c = chairs_done 10 c.loop-i.i c.args.b.now c.loop-i.cs (chairs_in 10 c.args.b.now) c.loop-i.invariant.0 (omega arith) c.loop-i.invariant.1
