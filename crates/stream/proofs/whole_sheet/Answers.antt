-- `whole_sheet` meets its contract: the sheet is bad, or opens the table.
use Rattle.desk.proofs.Opened.{opened_is}
use mathlib.Core.Path.{sym, ◌∙◌}
use Rattle.stream.proofs.Steps.{bad_gave, read_gave}
use Rattle.stream.proofs.whole_sheet.Goals as goal

pub new_table-requires : goal.new_table-requires
new_table-requires c = opened_is c.args.block.now _ (sym c.read_lone_sheet.ensures ∙ c.in-Ok.is)

pub returns-in-Err : goal.returns-in-Err
returns-in-Err c =
    let s = c in
    let r = bad_gave s.args.t s.args.block.now s.args.out.now c.read_lone_sheet.ensures c.in-Err.is c.refuse_sheet.ensures c.empty-z.ensures.0 s.requires in record { gave = r.0; held = r.1 }

pub returns-in-Ok : goal.returns-in-Ok
returns-in-Ok c =
    let s = c in
    let r = read_gave s.args.t s.args.block.now s.args.out.now c.read_lone_sheet.ensures c.in-Ok.is c.new_table.ensures c.empty-z.ensures.0 in record { gave = r.0; held = r.1 }
