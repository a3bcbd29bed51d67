-- `line_at` meets its contract: the row of the code's table is the definition's.
use Rattle.picture.proofs.Tables.{key_row, line_said}
use Rattle.picture.proofs.reading.line_at.Goals as goal

pub slice_bounds-number_behind-end : goal.slice_bounds-number_behind-end
slice_bounds-number_behind-end c = (key_row c.args.k c.requires).0

pub line_with-requires : goal.line_with-requires
line_with-requires c = (c.requires, (key_row c.args.k c.requires).2)

pub returns : goal.returns
returns c = (line_said c.args.k c.args.line.now c.requires c.number_behind-x.ensures c.line_with.ensures.0, c.line_with.ensures.1)
