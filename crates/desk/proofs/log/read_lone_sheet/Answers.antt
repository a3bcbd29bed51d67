-- `read_lone_sheet` meets its contract: the log's sheet, with no drop. Assumes nothing.
use mathlib.Core.Path.{ap, ◌∙◌}
use Rattle.std.specs.Prelude.{Err}
use Rattle.std.proofs.lemmas.Result.{err_from_is_err_and}
use Rattle.desk.proofs.Opened.{opened_read, opened_bad}
use Rattle.desk.proofs.log.read_lone_sheet.Goals as goal

pub returns-in_err-read_sheet : goal.returns-in_err-read_sheet
returns-in_err-read_sheet c =
    let p = err_from_is_err_and c.from_residual.result c.from_residual.ensures.1 in
    p.1 ∙ ap Err p.2 ∙ opened_bad _ c.read_sheet.ensures c.in_err-read_sheet.was

pub returns : goal.returns
returns c = opened_read _ c.read_sheet.ensures c.in_ok-read_sheet.was c.lone.ensures
