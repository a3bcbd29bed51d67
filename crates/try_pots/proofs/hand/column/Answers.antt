-- `column` meets its contract. The invariant: in front of the place the numbers are written, behind it they are still to come.
-- Assumes nothing.
use Rattle.try_pots.proofs.Made.{listed_turn, listed_done}
use Rattle.try_pots.specs.MadeHands.{column_of}
use native.Mathlib.Omega.{arith}
use lib.ListN.{length-set}
use mathlib.Core.Path.{refl}
use Rattle.try_pots.proofs.hand.column.Goals as goal

pub loop-i-init : goal.loop-i-init
unfolding column_of
loop-i-init c = (refl, refl)

pub loop-i-preserved : goal.loop-i-preserved
loop-i-preserved c = (simp length-set c.loop-i.invariant.0, listed_turn _ 10 c.loop-i.i _ c.loop-i.a _ (omega arith) (omega arith) c.number_for.ensures c.loop-i.invariant.1)

pub returns : goal.returns
returns c = listed_done _ 10 c.loop-i.i c.loop-i.a _ (omega arith) (omega arith) c.loop-i.invariant.1
