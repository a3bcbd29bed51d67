-- `table_at` meets its contract.
use mathlib.Core.Path.{◌≡◌}
use lib.ListN.{length}
use Rattle.couple.proofs.Tables.{at_second, at_first}
use borrow.Author.Rules.{rules}
use Rattle.couple.proofs.table_at.Goals as goal

pub returns-then-second : goal.returns-then-second
returns-then-second c = let n : length c.args.ts ≡ 2 = search rules in at_second c.args.ts _ n c.if-second.true

pub returns : goal.returns
returns c = let n : length c.args.ts ≡ 2 = search rules in at_first c.args.ts _ n c.if-second.false
