-- `put_word` meets its contract: what records' writes, and that a word is below 2 ^ 32, which its type gives.
use borrow.Author.Rules.{rules}
use Rattle.packed.proofs.put_word.Goals as goal

pub returns : goal.returns
returns c = record { wrote = c.put_word.ensures; small = record { below = search rules } }
