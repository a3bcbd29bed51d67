-- `given` meets its contract: the place fits.
-- Assumes nothing.
use native.Mathlib.Omega.{arith}
use native.Mathlib.Nat.{mul-le-mul}
use Rattle.tray.proofs.given.Goals as goal

pub overflow_mul-s : goal.overflow_mul-s
overflow_mul-s c = record { fits = omega (arith, mul-le-mul c.requires.1 c.requires.0) }

pub overflow_add-s : goal.overflow_add-s
overflow_add-s c = record { fits = omega (arith, mul-le-mul c.requires.1 c.requires.0, c.requires.2) }
