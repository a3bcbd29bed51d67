-- `all_within` meets its contract: what is left is as the whole.
use mathlib.Core.Path.{◌≡◌}
use lib.ListN.{drop}
use Rattle.text.specs.Bytes.{all_within}
use Rattle.blocks.proofs.kind.all_within.Given as goal

abbrev pub invariant-loop-b : goal.invariant-loop-b
invariant-loop-b l = all_within l.lo l.hi (drop l.b-index l.w) ≡ all_within l.lo l.hi l.w
