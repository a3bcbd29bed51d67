-- `kind_of_five` meets its contract.
use Rattle.blocks.proofs.Packs.{last_known}
use mathlib.Core.Path.{refl}
use native.Mathlib.Omega.{arith}
use Rattle.blocks.proofs.words.kind_of_five.Goals as goal

pub returns-in-1986094444 : goal.returns-in-1986094444
returns-in-1986094444 c = λ h. last_known 1 101 5 c.when_last.ensures (λ e. (omega (arith, e, c.in-1986094444.is), refl)) h

pub returns-in-1667590243 : goal.returns-in-1667590243
returns-in-1667590243 c = λ h. last_known 5 107 5 c.when_last-in-1667590243.ensures (λ e. (omega (arith, e, c.in-1667590243.is), refl)) h

pub returns-in-1701273975 : goal.returns-in-1701273975
returns-in-1701273975 c = λ h. last_known 7 114 5 c.when_last-in-1701273975.ensures (λ e. (omega (arith, e, c.in-1701273975.is), refl)) h

pub returns-in-1918988130 : goal.returns-in-1918988130
returns-in-1918988130 c = λ h. last_known 8 100 5 c.when_last-in-1918988130.ensures (λ e. (omega (arith, e, c.in-1918988130.is), refl)) h
