-- `rounds::reading::read_numbers` meets its contract. Assumes nothing.
use Rattle.rounds.specs.RoundText.{keys, readings, all_values}
use Rattle.text.specs.Line.{after_lines}
use Rattle.text.specs.TableSheet.{value_in}
use lib.ListN.{length, take, drop}
use Prim.Native.Nat.{◌-◌, ◌≤◌}
use mathlib.Core.List.{◌++◌, map}
use mathlib.Core.Path.{◌≡◌}
use Rattle.rounds.proofs.reading.read_numbers.Given as goal

abbrev pub invariant-loop-k : goal.invariant-loop-k
invariant-loop-k l =
    (length l.numbers ≡ 16)
    × (l.used ≤ length l.block)
    × (all_values (readings (drop l.k keys) (drop l.used l.block)) ≡ all_values (readings keys l.block))
    × (take l.k l.numbers ++ map value_in (readings (drop l.k keys) (drop l.used l.block)) ≡ map value_in (readings keys l.block))
    × (after_lines (16 - l.k) (drop l.used l.block) ≡ after_lines 16 l.block)
