-- `put_line` meets its contract: the row of the code's table has the paper's key.
use Rattle.text.proofs.SheetRows.{row}
use Rattle.writing.proofs.sheet.put_line.Goals as goal

pub slice_bounds-write_number_line-end : goal.slice_bounds-write_number_line-end
slice_bounds-write_number_line-end c = (row c.args.k c.requires.0).0

pub write_number_line-requires : goal.write_number_line-requires
write_number_line-requires c = rw (row c.args.k c.requires.0).1 (c.requires.1, c.requires.2)

pub returns : goal.returns
returns c = rw (row c.args.k c.requires.0).1 at c.write_number_line.ensures
