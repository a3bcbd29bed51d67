-- `kind_of_six` meets its contract.
use Rattle.blocks.proofs.Packs.{last_known}
use mathlib.Core.Path.{refl}
use native.Mathlib.Omega.{arith}
use Rattle.blocks.proofs.words.kind_of_six.Goals as goal

pub returns-then-fifth-eq108 : goal.returns-then-fifth-eq108
returns-then-fifth-eq108 c = λ h. last_known 10 101 6 c.when_last.ensures (λ e. (omega (arith, e, c.if-w-eq1953785203.true, c.if-fifth-eq108.true), refl)) h
