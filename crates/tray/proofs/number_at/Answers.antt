-- `number_at` meets its contract: past the end the list's number is 0. Assumes nothing.
use mathlib.Core.Path.{sym}
use lib.ListN.{get_or-eq_default}
use Rattle.tray.proofs.number_at.Goals as goal

pub returns-else-at-p : goal.returns-else-at-p
returns-else-at-p c = sym (get_or-eq_default c.args.p.now 0 c.if-at-p.false)
