-- `figures::row::put_left` meets its contract: the column stands behind the label. Assumes nothing.
use mathlib.Core.Path.{◌≡◌}
use native.Mathlib.Omega.{arith}
use lib.ListN.{length}
use borrow.Author.Rules.{rules}
use Rattle.figures.specs.ScreenRow.{left_of}
use Rattle.figures.proofs.Tables.{label_length}
use Rattle.figures.proofs.Puts.{next}
use Rattle.figures.proofs.row.put_left.Goals as goal

pub returns : goal.returns
unfolding left_of
returns c =
    let n : length c.column.result ≡ 11 = search rules in
    (rw c.column.ensures at (next c.put-a.ensures c.put.ensures), omega (arith, c.put-a.ensures.count, c.put.ensures.count, label_length c.args.kind c.requires.0))
