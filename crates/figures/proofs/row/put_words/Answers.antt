-- `figures::row::put_words` meets its contract: the words stand between the row's edges. Assumes nothing.
use native.Mathlib.Omega.{arith}
use Rattle.figures.specs.ScreenRow.{words_row}
use Rattle.figures.proofs.Tables.{words_length}
use Rattle.figures.proofs.Puts.{next}
use Rattle.figures.proofs.row.put_words.Goals as goal

pub returns : goal.returns
unfolding words_row
returns c = (
  next (next c.put-a.ensures c.put_lit-b.ensures.0) c.put.ensures,
  omega (arith, c.put-a.ensures.count, c.put_lit-b.ensures.1, c.put.ensures.count, words_length c.args.code c.requires.0),
)
