-- `digit_run` meets its contract: the bytes passed are digits, and their value is v.
use Rattle.text.specs.Number.{all_digits, value_from}
use lib.ListN.{take}
use Prim.Native.Nat.{◌<◌, ◌^◌}
use mathlib.Core.Bool.{true}
use mathlib.Core.Path.{◌≡◌}
use Rattle.blocks.proofs.runs.digit_run.Given as goal

abbrev pub invariant-loop-i : goal.invariant-loop-i
invariant-loop-i l = (l.v < 10 ^ l.i) × (all_digits (take l.i l.part) ≡ true) × (l.v ≡ value_from 0 (take l.i l.part))
