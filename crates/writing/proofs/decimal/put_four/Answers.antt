-- `put_four` meets its contract: a pair behind a pair.
use Rattle.writing.proofs.Sheets.{then}
use Rattle.writing.proofs.decimal.put_four.Goals as goal

pub returns : goal.returns
returns c = then c.put_pair-k.ensures c.put_pair.ensures
