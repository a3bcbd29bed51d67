-- `rows::with_row` meets its contract: past the sixteenth place nothing is kept. Assumes nothing.
use lib.ListN.{length}
use mathlib.Core.Path.{◌≡◌}
use native.Mathlib.Omega.{arith}
use Rattle.rows.proofs.Slots.{no_slot}
use borrow.Author.Rules.{rules}
use Rattle.rows.proofs.with_row.Goals as goal

pub returns-else-i-lt-ROWS : goal.returns-else-i-lt-ROWS
returns-else-i-lt-ROWS c = let w : length c.args.c.worths ≡ 16 = search rules in
    let k : length c.args.c.counts ≡ 16 = search rules in
    no_slot c.args.c c.args.r c.args.i (omega (arith, w, c.if-i-lt-ROWS.false)) (omega (arith, k, c.if-i-lt-ROWS.false))
