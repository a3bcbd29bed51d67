-- `entry_in` meets its contract.
use Rattle.records.specs.Stored.{entry_by}
use mathlib.Core.Path.{◌∙◌, ap}
use Rattle.records.proofs.entry_in.Goals as goal

pub returns : goal.returns
returns c = c.entry_by.ensures ∙ ap entry_by c.record_in.ensures
