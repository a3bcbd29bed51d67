-- `put_word` meets its contract.
use Rattle.records.proofs.Words.{word_wrote}
use Rattle.records.proofs.put_word.Goals as goal

pub returns : goal.returns
returns c = word_wrote c.args.w c.low_byte.ensures c.low_byte-2.ensures c.low_byte-3.ensures c.low_byte-4.ensures c.put_bytes.ensures
