-- `corrected_number` meets its contract. Assumes nothing.
use Rattle.shared.proofs.Laws.{corrected_is}
use Rattle.shared.proofs.corrected_number.Goals as goal

pub returns : goal.returns
returns c = corrected_is _ c.read_key_number.ensures c.unwrap_or.ensures
