-- `in_range` meets its contract: an entry is tested by its numbers.
use mathlib.Core.Path.{ap, ◌∙◌}
use Rattle.paper.specs.declared.Numbers.{Numbers}
use Rattle.paper.specs.SheetAndEntries.{in_range, block_fits}
use Rattle.paper.proofs.in_range.Goals as goal

pub returns : goal.returns
unfolding in_range
returns c = c.block_fits.ensures ∙ ap (λ (x : Numbers). block_fits c.args.sheet c.args.n x) c.numbers_of.ensures
