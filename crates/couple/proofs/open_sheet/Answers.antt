-- `open_sheet` meets its contract.
use Rattle.text.proofs.SheetLaws.{sheet_is}
use mathlib.Core.Path.{refl, sym, ◌∙◌}
use Rattle.couple.proofs.Tables.{sheet_bad, sheet_gave}
use Rattle.couple.proofs.open_sheet.Goals as goal

pub with_sheet-requires : goal.with_sheet-requires
with_sheet-requires c = (c.requires.0, sheet_is c.args.lines.now _ (sym c.read_sheet.ensures ∙ c.in-Ok.is))

pub returns-in-Err : goal.returns-in-Err
returns-in-Err c = let w = c.refuse.ensures in record { gave = sheet_bad c.args.p c.args.due c.read_sheet.ensures c.in-Err.is w.gave; good = w.good }

pub returns-in-Ok : goal.returns-in-Ok
returns-in-Ok c = let w = c.with_sheet.ensures in record { gave = sheet_gave c.args.p c.args.due c.read_sheet.ensures c.in-Ok.is (record { pair = w.0; wrote = record { count = refl; sheet = refl } }); good = w.1 }
