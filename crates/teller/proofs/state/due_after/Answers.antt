-- `teller::state::due_after` meets its contract: what is due behind a row. Assumes nothing.
use mathlib.Core.Path.{refl}
use borrow.Author.Tests.{lt-ltb, le-ltb}
use Rattle.teller.proofs.state.due_after.Goals as goal

pub returns-then-read-rows : goal.returns-then-read-rows
returns-then-read-rows c = rw (lt-ltb c.args.read c.args.rows c.if-read-rows.true) refl

pub returns-else-read-rows : goal.returns-else-read-rows
returns-else-read-rows c = rw (le-ltb c.args.read c.args.rows c.if-read-rows.false) refl
