-- `put_key` meets its contract: `=` is written behind the key.
use Rattle.writing.proofs.Sheets.{then}
use Rattle.writing.proofs.writer.put_key.Goals as goal

pub returns : goal.returns
returns c = then c.put_bytes-a.ensures c.put_byte.ensures
