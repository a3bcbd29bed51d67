-- `few_first` meets its contract: the number itself below ten, its tens above.
use mathlib.Core.Path.{refl}
use native.Mathlib.Omega.{arith}
use borrow.Author.Tests.{le-ltb, lt-ltb}
use Rattle.writing.proofs.decimal.few_first.Goals as goal

pub returns-then-n-lt10 : goal.returns-then-n-lt10
returns-then-n-lt10 c = (rw (lt-ltb c.args.n 10 c.if-n-lt10.true) refl, c.if-n-lt10.true)

pub returns-else-n-lt10 : goal.returns-else-n-lt10
returns-else-n-lt10 c = let s = c in (rw (le-ltb s.args.n 10 c.if-n-lt10.false) refl, omega (arith, s.requires))
