-- `number_at` meets its contract: behind the last number it is 0.
-- Assumes nothing.
use lib.ListN.{get_or-eq_default}
use mathlib.Core.Path.{sym}
use Rattle.try_pots.proofs.hand.number_at.Goals as goal

pub returns-else-i-nums : goal.returns-else-i-nums
returns-else-i-nums c = sym (get_or-eq_default c.args.nums.now 0 c.if-i-nums.false)
