-- `after_lines` meets its contract. The measure is k.
use mathlib.Core.Path.{◌∙◌}
use Rattle.text.proofs.SheetLaws.{lines_none, lines_one}
use Rattle.text.proofs.line.+after_lines.Goals as goal

pub returns-then-k-eq0 : goal.returns-then-k-eq0
returns-then-k-eq0 t c = lines_none c.args.log.now c.args.k c.if-k-eq0.true

pub returns : goal.returns
returns t c = c.after_lines.ensures ∙ lines_one c.args.log.now _ c.args.k c.if-k-eq0.false c.after_line.ensures
