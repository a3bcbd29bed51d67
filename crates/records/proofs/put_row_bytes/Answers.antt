-- `put_row_bytes` meets its contract.
use Rattle.records.proofs.Words.{words_length}
use mathlib.Core.Path.{◌≡◌}
use lib.ListN.{length}
use native.Mathlib.Omega.{arith}
use Rattle.writing.proofs.Sheets.{then}
use borrow.Author.Rules.{rules}
use Rattle.records.proofs.put_row_bytes.Goals as goal

pub overflow_add-result : goal.overflow_add-result
overflow_add-result c = let n : length c.args.stacks ≡ 10 = search rules in omega (arith, c.put_word-a.ensures.count, c.put_words.ensures.count, words_length c.args.stacks, n)

pub returns : goal.returns
returns c = then c.put_word-a.ensures c.put_words.ensures
