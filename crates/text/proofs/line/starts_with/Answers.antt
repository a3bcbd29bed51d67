-- `starts_with` meets its contract: std's word for it says the same.
use mathlib.Core.Path.{◌∙◌}
use Rattle.text.proofs.Lines.{starts_said}
use Rattle.text.proofs.line.starts_with.Goals as goal

pub returns : goal.returns
returns c = c.starts_with.ensures.value ∙ starts_said c.args.key.now c.args.line.now
