-- `table_of` meets its contract.
use mathlib.Core.Path.{ap, ◌∙◌}
use Rattle.frames.specs.Frames.{table_of, table_in}
use Rattle.frames.proofs.table_of.Goals as goal

pub returns : goal.returns
unfolding table_of
returns c = c.table_in.ensures ∙ ap table_in c.read_key_number.ensures
