-- `dealt_sitting` meets its contract.
use borrow.Author.Tests.{lt-ltb, le-ltb}
use native.Mathlib.Omega.{arith}
use Rattle.chairs.proofs.dealt_sitting.Goals as goal

pub returns-then-stack-gt0 : goal.returns-then-stack-gt0
returns-then-stack-gt0 c = simp (lt-ltb 0 c.args.stack (omega arith))

pub returns-else-stack-gt0 : goal.returns-else-stack-gt0
returns-else-stack-gt0 c = simp (le-ltb 0 c.args.stack (omega arith))
