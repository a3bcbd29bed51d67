-- `longest` meets its contract.
use Prim.Native.Nat.{ℕ}
use native.Mathlib.Omega.{arith}
use lib.ListN.{length-take}
use Rattle.try_chops.proofs.served.longest.Goals as goal

pub slice_bounds-close-end-2 : goal.slice_bounds-close-end-2
slice_bounds-close-end-2 c = omega (arith, c.requires.1, c.loop-i.auto.trace, length-take {A = ℕ})
