-- `cards::asked::any_twice` meets its contract: what is left of the cards decides. Assumes nothing.
use mathlib.Core.Path.{◌≡◌}
use lib.ListN.{drop}
use Rattle.cards.specs.Reading.{any_twice}
use Rattle.cards.proofs.asked.any_twice.Given as goal

abbrev pub invariant-loop-i : goal.invariant-loop-i
invariant-loop-i l = any_twice (drop l.i l.cards) ≡ any_twice l.cards
