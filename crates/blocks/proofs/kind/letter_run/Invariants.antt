-- `letter_run` meets its contract: the bytes passed are letters.
use mathlib.Core.Path.{◌≡◌}
use mathlib.Core.Bool.{true}
use lib.ListN.{take}
use Rattle.blocks.specs.Block.{all_letters}
use Rattle.blocks.proofs.kind.letter_run.Given as goal

abbrev pub invariant-loop-i : goal.invariant-loop-i
invariant-loop-i l = all_letters (take l.i l.part) ≡ true
