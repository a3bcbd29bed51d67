-- `end_pair` meets its contract: two digits and the LF.
use Rattle.writing.proofs.Pairs.{digits_pair}
use Rattle.writing.proofs.Sheets.{then, same_bytes}
use Rattle.writing.proofs.writer.end_pair.Goals as goal

pub returns : goal.returns
returns c = let s = c in then (same_bytes (digits_pair s.args.n s.requires.0.0 s.requires.0.1) c.put_pair-c.ensures) c.put_byte.ensures
