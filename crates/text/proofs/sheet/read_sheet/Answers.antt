-- `read_sheet` meets its contract.
use Rattle.text.proofs.SheetLaws.{sheet_bad, sheet_crossed, sheet_good}
use Rattle.paper.specs.Paper.{is_sheet}
use Rattle.text.specs.TableSheet.{sheet_with}
use mathlib.Core.Bool.{true, false}
use mathlib.Core.Path.{◌≡◌, sym, ap, ◌∙◌}
use Rattle.text.proofs.sheet.read_sheet.Goals as goal

pub returns-then-is_sheet : goal.returns-then-is_sheet
returns-then-is_sheet c = let e : c.sheet_with-s.result ≡ sheet_with c.args.log.now = c.sheet_with-s.ensures in
    let f : is_sheet (sheet_with c.args.log.now) ≡ true = sym (ap is_sheet e) ∙ sym c.is_sheet.ensures ∙ c.if-is_sheet.true in
    rw e (sym (sheet_good c.args.log.now (sym c.all_good.ensures ∙ c.if-all_good.true) f))

pub returns-else-is_sheet : goal.returns-else-is_sheet
returns-else-is_sheet c = let e : c.sheet_with-s.result ≡ sheet_with c.args.log.now = c.sheet_with-s.ensures in
    let f : is_sheet (sheet_with c.args.log.now) ≡ false = sym (ap is_sheet e) ∙ sym c.is_sheet.ensures ∙ c.if-is_sheet.false in
    sym (sheet_crossed c.args.log.now (sym c.all_good.ensures ∙ c.if-all_good.true) f)

pub returns-else-all_good : goal.returns-else-all_good
returns-else-all_good c = sym (sheet_bad c.args.log.now (sym c.all_good.ensures ∙ c.if-all_good.false))
