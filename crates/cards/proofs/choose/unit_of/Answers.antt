-- `cards::choose::unit_of` meets its contract. Assumes nothing.
use Rattle.cards.specs.Searching.{units}
use Rattle.cards.proofs.Arms.{past, only}
use native.Mathlib.Omega.{arith}
use Prim.Native.Nat.{zero-le, ◌≤◌}
use Rattle.cards.proofs.choose.unit_of.Goals as goal

pub returns-in-0 : goal.returns-in-0
unfolding units
returns-in-0 c = record { is = rw c.in-0.is; small = (omega arith, omega arith) }

pub returns-in-1 : goal.returns-in-1
unfolding units
returns-in-1 c = record { is = rw c.in-1.is; small = (omega arith, omega arith) }

pub returns-in-2 : goal.returns-in-2
unfolding units
returns-in-2 c = record { is = rw c.in-2.is; small = (omega arith, omega arith) }

pub returns-in-3 : goal.returns-in-3
unfolding units
returns-in-3 c = record { is = rw c.in-3.is; small = (omega arith, omega arith) }

pub returns-in_default : goal.returns-in_default
unfolding units
returns-in_default c =
    let k = c.args.have in
    let r = c.in_default.in_default-own.rest in
    let most : 4 ≤ k = past k 3 (past k 2 (past k 1 (past k 0 zero-le r.0.0.0.1) r.0.0.1) r.0.1) r.1 in
    record { is = rw (only k 4 most c.requires); small = (omega arith, omega arith) }
