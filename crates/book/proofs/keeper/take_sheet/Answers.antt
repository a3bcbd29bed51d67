-- `take_sheet` meets its contract: the sheet is bad, or opens the book with no drop. Assumes nothing.
use Rattle.book.proofs.Fronts.{some_lines}
use Rattle.text.proofs.SheetLaws.{sheet_is}
use mathlib.Core.Path.{◌≡◌, refl, sym, subst, ◌∙◌}
use mathlib.Core.Bool.{true}
use Rattle.paper.specs.Paper.{is_sheet}
use Rattle.paper.specs.declared.Sheet.{Sheet}
use Rattle.desk.proofs.Opened.{lone_is}
use Rattle.book.proofs.keeper.take_sheet.Goals as goal

pub opened-b-requires : goal.opened-b-requires
opened-b-requires c = subst (λ (x : Sheet). is_sheet x ≡ true) (sym c.lone.ensures) (lone_is _ (sheet_is c.args.lines.now _ (sym c.read_sheet.ensures ∙ c.in-Ok.is)))

pub returns-in-Err : goal.returns-in-Err
returns-in-Err c = (record { book = c.requires; room = c.empty-z.ensures.1; lines = rw c.empty-z.ensures.0 (some_lines c.args.k.opened) }, refl, refl)

pub returns-in-Ok : goal.returns-in-Ok
returns-in-Ok c = (record { book = c.opened-b.ensures.1; room = c.empty-z.ensures.1; lines = rw c.empty-z.ensures.0 (some_lines true) }, refl, refl)
