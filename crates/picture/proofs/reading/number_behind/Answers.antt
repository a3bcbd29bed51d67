-- `number_behind` meets its contract: it is what the value is.
use Rattle.picture.proofs.reading.number_behind.Goals as goal

pub returns : goal.returns
returns c = cc
