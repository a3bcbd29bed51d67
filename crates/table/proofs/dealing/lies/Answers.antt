-- `lies` meets its contract.
use Rattle.table.proofs.dealing.lies.Goals as goal

pub returns : goal.returns
returns c = c.has_card.ensures
