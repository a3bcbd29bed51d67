-- `end_amount` meets its contract: one digit or two, or more of them, and the LF behind them.
use Rattle.writing.proofs.Sheets.{then}
use Rattle.writing.proofs.writer.end_amount.Goals as goal

pub returns : goal.returns
returns c = then c.put_digits-c.ensures c.put_byte.ensures
