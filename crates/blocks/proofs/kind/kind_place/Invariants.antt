-- `kind_place` meets its contract: what is left of the table gives the place that the whole does.
use Rattle.blocks.specs.Block.{kind_names, place_in}
use lib.ListN.{drop}
use Prim.Native.Nat.{◌+◌}
use mathlib.Core.Path.{◌≡◌}
use Rattle.blocks.proofs.kind.kind_place.Given as goal

abbrev pub invariant-loop-k : goal.invariant-loop-k
invariant-loop-k l = l.k + place_in (drop l.k kind_names) l.w ≡ place_in kind_names l.w
