-- `goes_on` meets its contract.
use Prim.Native.Nat.{◌-◌}
use borrow.Author.Tests.{ltb-true}
use mathlib.Core.Path.{sym}
use mathlib.Core.Bool.{true≢false}
use native.Mathlib.Omega.{arith}
use Rattle.try_chops.proofs.served.goes_on.Goals as goal

pub returns-then-used-size : goal.returns-then-used-size
returns-then-used-size c = λ e. let h = ltb-true c.args.room (c.args.most - c.args.at) e in (c.if-used-size.true, omega (arith, h, c.requires))

pub returns : goal.returns
returns c = λ e. absurd (true≢false (sym e))
