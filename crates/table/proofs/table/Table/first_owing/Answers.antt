-- `Table::first_owing` meets its contract.
use mathlib.Core.Path.{◌∙◌}
use Rattle.table.specs.Betting.{live_hands, only_with_chips}
use Rattle.table.proofs.Acts.{owing_is}
use Rattle.table.proofs.table.Table.first_owing.Goals as goal

pub returns : goal.returns
unfolding live_hands only_with_chips
returns c = c.turn_from.ensures ∙ owing_is c.args.self c.args.s
