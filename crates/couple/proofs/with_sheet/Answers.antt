-- `with_sheet` meets its contract.
use Rattle.couple.proofs.Tables.{sheet_with}
use Rattle.couple.proofs.with_sheet.Goals as goal

pub returns : goal.returns
returns c = sheet_with c.args.p c.args.due c.args.s c.requires.0 c.is_second.ensures c.new_table.ensures c.with_table-us.ensures
