-- `teller::state::put` meets its contract: past the end nothing changes. Assumes nothing.
use lib.Seq.{set_out}
use mathlib.Core.Path.{sym}
use Rattle.teller.proofs.state.put.Goals as goal

pub returns-else-i-list : goal.returns-else-i-list
returns-else-i-list g c = sym (set_out c.args.list.now c.args.i c.args.v c.if-i-list.false)
