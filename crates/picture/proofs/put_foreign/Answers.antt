-- `put_foreign` meets its contract: its four parts stand one behind the other.
use Rattle.picture.proofs.Steps.{foreign_drawn}
use native.Mathlib.Omega.{arith}
use mathlib.Core.Path.{◌≡◌}
use lib.ListN.{length}
use borrow.Author.Rules.{rules}
use Rattle.picture.proofs.put_foreign.Goals as goal

pub returns : goal.returns
returns c = let n : length c.mark-m.result ≡ 2 = search rules in (foreign_drawn c.args.last c.args.long c.args.bytes.now c.half.ensures c.mark-m.ensures c.put_if-a.ensures.0 c.put-b.ensures c.put_visible-c.ensures.0 c.put.ensures, omega (arith, c.requires.0, c.put_if-a.ensures.1, c.put-b.ensures.count, c.put_visible-c.ensures.1, c.put.ensures.count))
