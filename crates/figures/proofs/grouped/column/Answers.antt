-- `column` meets its contract, by its test.
use Rattle.figures.specs.Grouped.{column_of}
use Rattle.figures.proofs.grouped.column.Goals as goal

pub returns-then-shown : goal.returns-then-shown
unfolding column_of
returns-then-shown c = rw c.if-shown.true c.grouped.ensures

pub returns : goal.returns
unfolding column_of
returns c = rw c.if-shown.false
