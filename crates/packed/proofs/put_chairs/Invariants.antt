-- `put_chairs` meets its contract.
use Rattle.packed.proofs.Rows.{Going}
use Rattle.packed.specs.Layout.{chair_bytes}
use Rattle.packed.specs.Fits.{ChairFits}
use Rattle.packed.proofs.put_chairs.Given as goal

abbrev pub invariant-loop-c : goal.invariant-loop-c
invariant-loop-c l = Going chair_bytes ChairFits l.c-items l.initial.buffer l.buffer l.c-index l.at
