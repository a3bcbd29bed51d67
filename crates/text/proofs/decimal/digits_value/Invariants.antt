-- `digits_value` meets its contract: what is left, behind the value so far, is what the whole is.
use mathlib.Core.Path.{◌≡◌}
use Prim.Native.Nat.{◌<◌, ◌^◌}
use lib.ListN.{drop}
use Rattle.text.specs.Number.{digits_from}
use Rattle.text.proofs.decimal.digits_value.Given as goal

abbrev pub invariant-loop-b : goal.invariant-loop-b
invariant-loop-b l = (l.v < 10 ^ l.b-index) × (digits_from l.v (drop l.b-index l.part) ≡ digits_from 0 l.part)
