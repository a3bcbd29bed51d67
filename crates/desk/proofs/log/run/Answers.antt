-- `run` meets its contract.
use Rattle.desk.proofs.Whole.{run_bad, run_good}
use Rattle.desk.proofs.Opened.{opened_is}
use lib.ListN.{length}
use mathlib.Core.Path.{sym, ◌∙◌}
use Rattle.desk.proofs.log.run.Goals as goal

pub new_table-requires : goal.new_table-requires
new_table-requires c = opened_is c.args.log.now _ (sym c.read_lone_sheet.ensures ∙ c.in-Ok.is)

pub returns-in-Err : goal.returns-in-Err
returns-in-Err c = rw (run_bad c.args.log.now _ (length c.args.out.now) c.read_lone_sheet.ensures c.in-Err.is) c.refuse_sheet.ensures

pub returns-in-Ok : goal.returns-in-Ok
returns-in-Ok c = rw (run_good c.args.log.now _ _ (length c.args.out.now) c.read_lone_sheet.ensures c.in-Ok.is c.new_table.ensures.0 c.after_sheet.ensures) c.blocks-in-Ok.ensures
