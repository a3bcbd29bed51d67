-- `sheet_number` meets its contract.
use Rattle.text.proofs.SheetRows.{row, number_said}
use Rattle.text.proofs.sheet.sheet_number.Goals as goal

pub slice_bounds-read_key_number-end : goal.slice_bounds-read_key_number-end
slice_bounds-read_key_number-end c = (row c.args.k c.requires).0

pub returns : goal.returns
returns c = number_said c.args.k c.args.log.now c.requires c.after_lines.ensures c.read_key_number.ensures
