-- `put_row` meets its contract.
use Rattle.records.proofs.Puts.{row_put, row_none}
use lib.ListN.{length}
use mathlib.Core.Path.{◌≡◌, refl}
use borrow.Author.Rules.{rules}
use Rattle.records.proofs.put_row.Goals as goal

pub returns-then-at-index : goal.returns-then-at-index
returns-then-at-index c = let ten : length c.args.stacks ≡ 10 = search rules in row_put c.args.index.now c.args.h c.args.n c.args.stacks ten c.if-at-index.true c.put_row_bytes.ensures refl

pub returns-else-at-index : goal.returns-else-at-index
returns-else-at-index c = let ten : length c.args.stacks ≡ 10 = search rules in row_none c.args.index.now c.args.h c.args.n c.args.stacks ten c.if-at-index.false
