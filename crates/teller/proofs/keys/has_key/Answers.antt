-- `teller::keys::has_key` meets its contract: a line's key. Assumes nothing.
use Rattle.teller.proofs.Saying.{key_whole}
use mathlib.Core.Path.{refl, sym, ◌∙◌}
use Rattle.teller.proofs.keys.has_key.Goals as goal

pub returns-then-k-line : goal.returns-then-k-line
returns-then-k-line c = rw (sym c.starts_with.ensures ∙ c.if-starts_with.true) refl

pub returns-else-k-line : goal.returns-else-k-line
returns-else-k-line c = key_whole c.args.key.now c.args.line.now c.if-k-line.false

pub returns-else-starts_with : goal.returns-else-starts_with
returns-else-starts_with c = rw (sym c.starts_with.ensures ∙ c.if-starts_with.false) refl
