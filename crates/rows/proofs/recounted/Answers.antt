-- `rows::recounted` meets its contract: a row with the count that stands at its place. Assumes nothing.
use lib.ListN.{length}
use mathlib.Core.Path.{◌≡◌}
use native.Mathlib.Omega.{arith}
use Rattle.rows.proofs.Slots.{slot_counted, none_counted}
use borrow.Author.Rules.{rules}
use Rattle.rows.proofs.recounted.Goals as goal

pub returns-then-i-lt-ROWS : goal.returns-then-i-lt-ROWS
returns-then-i-lt-ROWS c = let k : length c.args.s.counts ≡ 16 = search rules in
    slot_counted c.args.s.counts c.args.r c.args.i (omega (arith, k, c.if-i-lt-ROWS.true))

pub returns : goal.returns
returns c = let k : length c.args.s.counts ≡ 16 = search rules in
    none_counted c.args.s.counts c.args.r c.args.i (omega (arith, k, c.if-i-lt-ROWS.false))
