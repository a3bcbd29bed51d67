-- `hear_one` meets its contract.
use lib.Seq.{length-take-le}
use lib.ListN.{drop, length-drop}
use native.Mathlib.Omega.{arith}
use Prim.Native.Nat.{◌+◌, ◌-◌}
use Rattle.try_chops.proofs.served.hear_one.Goals as goal

pub overflow_add-n : goal.overflow_add-n
overflow_add-n c = let s = c in omega (arith, s.well_formed, s.requires.2, c.feed-f.ensures.held.3, length-drop s.args.at s.args.trace.now, length-take-le (s.args.at + s.args.room - s.args.at) (drop s.args.at s.args.trace.now) (omega (arith, s.requires.2, length-drop s.args.at s.args.trace.now)))
