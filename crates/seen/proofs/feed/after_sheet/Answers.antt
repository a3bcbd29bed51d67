-- `after_sheet` meets its contract: the sheet is bad, or lays the table.
use mathlib.Core.Path.{sym, ap, ◌∙◌}
use Rattle.desk.proofs.Opened.{opened_is}
use Rattle.seen.specs.Seen.{opened_by, after_sheet}
use Rattle.seen.proofs.feed.after_sheet.Goals as goal

pub good_sheet-requires : goal.good_sheet-requires
good_sheet-requires c = opened_is c.args.block.now _ (sym c.read_lone_sheet.ensures ∙ c.in-Ok.is)

pub returns-in-Err : goal.returns-in-Err
unfolding after_sheet
returns-in-Err c = let e = sym c.read_lone_sheet.ensures ∙ c.in-Err.is in
    (c.bad_sheet.ensures.0 ∙ sym (ap (opened_by c.args.s) e), c.bad_sheet.ensures.1)

pub returns-in-Ok : goal.returns-in-Ok
unfolding after_sheet
returns-in-Ok c = let e = sym c.read_lone_sheet.ensures ∙ c.in-Ok.is in
    (c.good_sheet.ensures.0 ∙ sym (ap (opened_by c.args.s) e), c.good_sheet.ensures.1)
