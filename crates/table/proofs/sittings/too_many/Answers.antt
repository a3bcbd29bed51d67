-- `too_many` meets its contract.
use borrow.Author.Tests.{lt-ltb}
use native.Mathlib.Omega.{arith}
use mathlib.Core.Path.{sym}
use Prim.Native.Nat.{◌+◌}
use Rattle.table.proofs.sittings.too_many.Goals as goal

pub returns-then-all-gt100000000 : goal.returns-then-all-gt100000000
returns-then-all-gt100000000 c = sym (lt-ltb 100000000 (c.args.all + c.args.a) (omega arith))
