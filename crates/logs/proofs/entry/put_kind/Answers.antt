-- `put_kind` meets its contract: the row of the code's table is the paper's line.
use Rattle.logs.proofs.KindRows.{kind_row}
use Rattle.logs.proofs.entry.put_kind.Goals as goal

pub slice_bounds-put_bytes-end : goal.slice_bounds-put_bytes-end
slice_bounds-put_bytes-end c = (kind_row c.args.k c.requires.0).0

pub put_bytes-requires : goal.put_bytes-requires
put_bytes-requires c = rw (kind_row c.args.k c.requires.0).1 c.requires.1

pub returns : goal.returns
returns c = rw (kind_row c.args.k c.requires.0).1 at c.put_bytes.ensures
