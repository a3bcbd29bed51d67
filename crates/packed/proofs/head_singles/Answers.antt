-- `head_singles` meets its contract.
use Rattle.packed.proofs.Read.{spelled}
use lib.ListN.{length}
use mathlib.Core.Path.{◌≡◌}
use borrow.Author.Rules.{rules}
use Rattle.packed.proofs.head_singles.Goals as goal

pub returns : goal.returns
returns c = record { is = search rules; all = let n : length c.args.cards ≡ 5 = search rules in spelled 5 c.args.cards n }
