-- `line_next` meets its contract.
use mathlib.Core.Path.{◌∙◌, ap, sym}
use Rattle.frames.specs.Frames.{late_next}
use Rattle.frames.proofs.Nexts.{line_opening, line_late}
use Rattle.frames.proofs.line_next.Goals as goal

pub returns-then-in_opening : goal.returns-then-in_opening
returns-then-in_opening c = let a = c.args in line_opening a.due a.lines a.table c.in_opening.ensures c.if-in_opening.true c.after_part.ensures c.kept_next.ensures

pub returns-in-None : goal.returns-in-None
returns-in-None c = let a = c.args in line_late a.due a.lines a.table c.in_opening.ensures c.if-in_opening.false (c.other_next.ensures ∙ ap (late_next a.due a.lines) (sym c.in-None.is))

pub returns-in-Some : goal.returns-in-Some
returns-in-Some c = let a = c.args in line_late a.due a.lines a.table c.in_opening.ensures c.if-in_opening.false (c.table_next.ensures ∙ ap (late_next a.due a.lines) (sym c.in-Some.is))
