-- `all_good` meets its contract: the lines passed are good.
use mathlib.Core.Path.{◌≡◌}
use mathlib.Core.Bool.{true}
use Rattle.text.specs.TableSheet.{all_good}
use Rattle.text.proofs.sheet.all_good.Given as goal

abbrev pub invariant-loop-k : goal.invariant-loop-k
invariant-loop-k l =
    all_good l.k l.log ≡ true
